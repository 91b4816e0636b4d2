-- The bytes of a tag.
use Rattle.std.proofs.Common.{◌≡◌, ℕ, zero, suc, ◌+◌, ◌<◌, ◌≤◌, Bool, true, false, cond, [], ◌∷◌, ◌++◌, length, Some, None, Option, sym, ap, ◌∙◌, subst, inl, inr, add-one, arith, eq-eqb, ne_eqb}
use Rattle.std.specs.Option.{MatchOption, unwrap_or}
use Rattle.rules.specs.Views.{Bytes, Hir, write}
use Rattle.rules.specs.Emit.{take_tag}
use Rattle.std.proofs.lemmas.List.{length-map}
use Rattle.std.proofs.lemmas.Bool.{cases_eq}
use Rattle.rules.specs.Names.{known, numeral, tag_name, free_tag, next_tag}
use Rattle.hir.specs.declared.rows.Counts.{Counts}
use Rattle.hir.specs.Tables.{Tables, with_text, with_tag}
use Rattle.hir.specs.View.{rows, identifier_view, view}
use Rattle.hir.specs.WellFormed.{WellFormed}
use Rattle.hir.proofs.Growth.{sizes_are}

-- _temp
abbrev temp : Bytes
temp = 95 ∷ 116 ∷ 101 ∷ 109 ∷ 112 ∷ []

tag_first : (n : ℕ) → n ≡ 1 → tag_name n ≡ temp
tag_first n e = ap (λ b. 95 ∷ 116 ∷ 101 ∷ 109 ∷ 112 ∷ cond b [] (numeral n)) (eq-eqb n 1 e)

pub tag_later : (n : ℕ) → (n ≡ 1 → ⊥) → tag_name n ≡ temp ++ numeral n
tag_later n e = ap (λ b. 95 ∷ 116 ∷ 101 ∷ 109 ∷ 112 ∷ cond b [] (numeral n)) (ne_eqb n 1 e)

-- a number is tried, and the next
free_stop : (k : ℕ) (names : Bytes → Bool) (n : ℕ) → names (tag_name n) ≡ false → free_tag (suc k) names n ≡ n
free_stop k names n e = ap (λ b. elim b [ true ↦ free_tag k names (suc n) | false ↦ n ]) e

free_on : (k : ℕ) (names : Bytes → Bool) (n : ℕ) → names (tag_name n) ≡ true → free_tag (suc k) names n ≡ free_tag k names (suc n)
free_on k names n e = ap (λ b. elim b [ true ↦ free_tag k names (suc n) | false ↦ n ]) e

-- the first number from n on whose tag is free, among k
free_at : (k : ℕ) (names : Bytes → Bool) (n i : ℕ) → n ≤ i → i < n + k → names (tag_name i) ≡ false → ((j : ℕ) → n ≤ j → j < i → names (tag_name j) ≡ true) → free_tag k names n ≡ i
free_at zero names n i l h f before = absurd (omega arith)
free_at (suc k) names n i l h f before = elim (cases_eq n i) [
  | inl e ↦ free_stop k names n (subst (λ m. names (tag_name m) ≡ false) (sym e) f) ∙ e
  | inr e ↦ free_on k names n (before n (omega arith) (omega arith)) ∙ free_at k names (suc n) i (omega arith) (omega arith) f (λ j a b. before j (omega arith) b)
]

-- none is
free_none : (k : ℕ) (names : Bytes → Bool) (n : ℕ) → ((j : ℕ) → n ≤ j → j < n + k → names (tag_name j) ≡ true) → free_tag k names n ≡ n + k
free_none zero names n all = omega arith
free_none (suc k) names n all = free_on k names n (all n (omega arith) (omega arith)) ∙ free_none k names (suc n) (λ j a b. all j (omega arith) (omega arith)) ∙ omega arith

-- what a look for it answers
pub first_free : (k : ℕ) (names : Bytes → Bool) (n e : ℕ) (r : Option ℕ) → e ≡ n + k
    → MatchOption r ((j : ℕ) → n ≤ j → j < e → names (tag_name j) ≡ true) (λ i. (n ≤ i) × (i < e) × (names (tag_name i) ≡ false) × ((j : ℕ) → n ≤ j → j < i → names (tag_name j) ≡ true))
    → free_tag k names n ≡ unwrap_or r e
first_free k names n e None is h = free_none k names n (λ j a b. h j a (omega arith)) ∙ sym is
first_free k names n e (Some i) is h = free_at k names n i h.0 (omega arith) h.2 h.3

-- one try more than there are identifiers and rows
pub tries_first : (t : Tables) → WellFormed t → free_tag (t.counts.identifiers + t.counts.instructions + 1) (known (view t)) (t.counts.tag_mark + 1) ≡ next_tag (view t)
tries_first t w =
    let sized = sizes_are t w.counted in
    let i : t.counts.identifiers ≡ length (view t).identifiers = sym (ap (λ (c : Counts). c.identifiers) sized) ∙ sym (length-map (rows t).identifiers (identifier_view (view t).text)) in
    let r : t.counts.instructions ≡ (view t).used_rows = sym (ap (λ (c : Counts). c.instructions) sized) in
    (λ k. free_tag (i k + r k + 1) (known (view t)) (t.counts.tag_mark + 1)) ∙ (λ k. free_tag (add-one (length (view t).identifiers + (view t).used_rows) k) (known (view t)) (add-one t.counts.tag_mark k))

-- the view with one tag more
abbrev tagged_by : Hir → ℕ → ℕ → Hir
tagged_by h c n = record { identifiers = h.identifiers; functions = h.functions; bears = h.bears; used_rows = h.used_rows; counter = c; mark = n; text = h.text }

pub view_tag : (t : Tables) → view (with_text t (tag_name (next_tag (view t)))) ≡ write (view t) (tag_name (next_tag (view t)))
    → view (with_tag (with_text t (tag_name (next_tag (view t)))) (next_tag (view t))) ≡ take_tag (view t)
view_tag t e = (λ i. tagged_by (e i) ((view t).counter + 1) (next_tag (view t))) ∙ (λ i. tagged_by (write (view t) (tag_name (next_tag (view t)))) (add-one (view t).counter i) (next_tag (view t)))
