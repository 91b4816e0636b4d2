-- Places marked and read one after another.
use Rattle.std.proofs.Common.{◌≡◌, ℕ, ◌+◌, ◌<◌, Bool, true, false, eqb, leb, ◌≢◌, List, [], ◌∷◌, ◌++◌, map, length, get_or, drop, sym, refl, ap, ◌∙◌, subst, inl, inr, append_assoc, arith}
use Rattle.std.proofs.lemmas.List.{at_drop_more}
use Rattle.std.proofs.lemmas.Bool.{both_ways, cases_Bool, eqb-true, or_cases}
use Rattle.std.specs.List.{AllByRecursion}
use Rattle.rules.specs.Lists.{select, within}
use Rattle.rules.specs.Views.{Bytes, identifiers_of, is_read, is_written}
use Rattle.rules.proofs.Membership.{in_head, in_right}
use Rattle.rules.proofs.Steps.{pick_true, pick_false}
use Rattle.hir.specs.declared.rows.Place.{Place}
use Rattle.hir.specs.View.{place_view, null_place}
use Rattle.read_write.specs.Written.{written_in, read_in, Markable, Marked, Unnumbered}
use Rattle.read_write.proofs.Marks.{then_after, able_after, able_left}

-- as they are seen
written_cons : (text : Bytes) (p : Place) (ps : List Place) (b : Bool) → identifiers_of (select is_written (map (place_view text) ps)) ≡ written_in ps
    → identifiers_of (elim b [ true ↦ place_view text p ∷ select is_written (map (place_view text) ps) | false ↦ select is_written (map (place_view text) ps) ]) ≡ elim b [ true ↦ p.identifier.0 ∷ written_in ps | false ↦ written_in ps ]
written_cons text p ps true e = ap (λ zs. p.identifier.0 ∷ zs) e
written_cons text p ps false e = e

pub writes_are : (text : Bytes) (ps : List Place) → identifiers_of (select is_written (map (place_view text) ps)) ≡ written_in ps
writes_are text [] = refl
writes_are text (p ∷ ps) = written_cons text p ps (eqb p.role 5) (writes_are text ps)

read_cons : (text : Bytes) (p : Place) (ps : List Place) (b : Bool) → identifiers_of (select is_read (map (place_view text) ps)) ≡ read_in ps
    → identifiers_of (elim b [ true ↦ place_view text p ∷ select is_read (map (place_view text) ps) | false ↦ select is_read (map (place_view text) ps) ]) ≡ elim b [ true ↦ p.identifier.0 ∷ read_in ps | false ↦ read_in ps ]
read_cons text p ps true e = ap (λ zs. p.identifier.0 ∷ zs) e
read_cons text p ps false e = e

pub reads_are : (text : Bytes) (ps : List Place) → identifiers_of (select is_read (map (place_view text) ps)) ≡ read_in ps
reads_are text [] = refl
reads_are text (p ∷ ps) = read_cons text p ps (leb p.role 4) (reads_are text ps)

-- the place at i is next, or is passed over
pub written_next : (ps : List Place) (i : ℕ) → i < length ps → eqb (get_or ps i null_place).role 5 ≡ true → written_in (drop i ps) ≡ (get_or ps i null_place).identifier.0 ∷ written_in (drop (i + 1) ps)
written_next ps i l e = at_drop_more written_in ps i null_place l ∙ pick_true (eqb (get_or ps i null_place).role 5) ((get_or ps i null_place).identifier.0 ∷ written_in (drop (i + 1) ps)) (written_in (drop (i + 1) ps)) e

pub written_not : (ps : List Place) (i : ℕ) → i < length ps → eqb (get_or ps i null_place).role 5 ≡ false → written_in (drop i ps) ≡ written_in (drop (i + 1) ps)
written_not ps i l e = at_drop_more written_in ps i null_place l ∙ pick_false (eqb (get_or ps i null_place).role 5) ((get_or ps i null_place).identifier.0 ∷ written_in (drop (i + 1) ps)) (written_in (drop (i + 1) ps)) e

-- Some are marked, these are left.
pub record Marking (base turn : ℕ) (whole rest before now : List ℕ) : Type 0 where
  pub gone : List ℕ
  pub split : gone ++ rest ≡ whole
  pub marked : Marked base turn turn gone before now

pub left_as : {base turn : ℕ} {whole rest rest' before now : List ℕ} → rest ≡ rest' → Marking base turn whole rest before now → Marking base turn whole rest' before now
left_as {base} {turn} {whole} {before = before} {now = now} e s = subst (λ zs. Marking base turn whole zs before now) e s

pub one_more : {base turn x : ℕ} {whole rest before now after : List ℕ} → base < turn → Marking base turn whole (x ∷ rest) before now → Marked base turn turn (x ∷ []) now after → Marking base turn whole rest before after
one_more {base} {turn} {x} {whole} {rest} {before} {now} {after} l s m = record {
  gone = s.gone ++ (x ∷ []);
  split = append_assoc s.gone (x ∷ []) rest ∙ s.split;
  marked = then_after base turn turn turn l (omega arith) s.gone (x ∷ []) before now after s.marked m;
}

pub not_marked : {base turn x : ℕ} {whole rest before now : List ℕ} → Marking base turn whole (x ∷ rest) before now → (Markable base (x ∷ []) now → ⊥) → Markable base whole before → ⊥
not_marked {base} {turn} {x} {whole} {rest} {before} {now} s u m = u (able_left base (x ∷ []) rest now (able_after base turn turn s.gone (x ∷ rest) before now s.marked (subst (λ zs. Markable base zs before) (sym s.split) m)))

-- Reads: each place by itself.
pub record InTime (turn : ℕ) (ms : List ℕ) (p : Place) : Type 0 where
  pub early : leb p.role 4 ≡ true → get_or ms p.identifier.0 0 ≢ turn

pub all_in_time : (turn : ℕ) (ms : List ℕ) (ps : List Place) → AllByRecursion (InTime turn ms) ps → Unnumbered turn (read_in ps) ms
all_in_time turn ms [] a = λ x i. absurd (both_ways false refl i)
all_in_time turn ms (p ∷ ps) a = elim (cases_Bool (leb p.role 4)) [
  | inl r ↦ subst (λ zs. Unnumbered turn zs ms) (sym (pick_true (leb p.role 4) (p.identifier.0 ∷ read_in ps) (read_in ps) r))
      (λ x i. elim (or_cases (eqb x p.identifier.0) (within x (read_in ps)) i) [ inl t ↦ subst (λ z. get_or ms z 0 ≢ turn) (sym (eqb-true x p.identifier.0 t)) (a.0.early r) | inr t ↦ all_in_time turn ms ps a.1 x t ])
  | inr n ↦ subst (λ zs. Unnumbered turn zs ms) (sym (pick_false (leb p.role 4) (p.identifier.0 ∷ read_in ps) (read_in ps) n)) (all_in_time turn ms ps a.1)
]

pub each_in_time : (turn : ℕ) (ms : List ℕ) (ps : List Place) → Unnumbered turn (read_in ps) ms → AllByRecursion (InTime turn ms) ps
each_in_time turn ms [] u = tt
each_in_time turn ms (p ∷ ps) u = elim (cases_Bool (leb p.role 4)) [
  | inl r ↦
      let v = subst (λ zs. Unnumbered turn zs ms) (pick_true (leb p.role 4) (p.identifier.0 ∷ read_in ps) (read_in ps) r) u in
      (record { early = λ _. v p.identifier.0 (in_head p.identifier.0 (read_in ps)) }, each_in_time turn ms ps (λ x i. v x (in_right x (p.identifier.0 ∷ []) (read_in ps) i)))
  | inr n ↦ (record { early = λ r. absurd (both_ways (leb p.role 4) n r) }, each_in_time turn ms ps (subst (λ zs. Unnumbered turn zs ms) (pick_false (leb p.role 4) (p.identifier.0 ∷ read_in ps) (read_in ps) n) u))
]
