-- Marks: one more, several more, and how many are left.
use Rattle.std.proofs.Common.{◌≡◌, ℕ, zero, suc, ◌+◌, ◌<◌, ◌≤◌, true, false, not, ◌&&◌, ◌||◌, eqb, leb, List, [], ◌∷◌, ◌++◌, length, get_or, set, refl, ap, ◌∙◌, arith, length-set}
use Rattle.std.specs.List.{list_any}
use Rattle.std.proofs.lemmas.Bool.{eq-eqb}
use Rattle.rules.specs.Lists.{any, select}
use Rattle.hir.specs.declared.rows.Place.{Place}
use Rattle.sweep.specs.Marks.{is_marked, unmarked_one, unmarked, with_mark, with_marks, ids, ids_read, ids_written}

pub one_less : (marks : List ℕ) (x : ℕ) → x < length marks → get_or marks x 0 ≡ 0 → 1 + unmarked (set marks x 1) ≡ unmarked marks
one_less [] x l h = absurd (omega arith)
one_less (m ∷ marks) zero l h = let e : unmarked_one m ≡ 1 = ap unmarked_one h in omega arith
one_less (m ∷ marks) (suc x) l h = let ih = one_less marks x (omega arith) h in omega arith

at_most_one : (m : ℕ) → unmarked_one m ≤ 1
at_most_one zero = omega arith
at_most_one (suc m) = omega arith

pub unmarked_most : (marks : List ℕ) → unmarked marks ≤ length marks
unmarked_most [] = omega arith
unmarked_most (m ∷ marks) = let a = at_most_one m in let ih = unmarked_most marks in omega arith

pub with_mark_long : (marks : List ℕ) (x : ℕ) → length (with_mark marks x) ≡ length marks
with_mark_long marks x = elim (eqb (get_or marks x 0) 0) as (λ b. length (elim b as (λ _. List ℕ) [ true ↦ set marks x 1 | false ↦ marks ]) ≡ length marks) [ true ↦ length-set marks x 1 | false ↦ refl ]

pub with_marks_long : (marks xs : List ℕ) → length (with_marks marks xs) ≡ length marks
with_marks_long marks [] = refl
with_marks_long marks (x ∷ xs) = with_marks_long (with_mark marks x) xs ∙ with_mark_long marks x

-- The loops over places: one place more.

pub all_more : (marks : List ℕ) (ps : List Place) (p : Place) → with_marks marks (ids (ps ++ p ∷ [])) ≡ with_mark (with_marks marks (ids ps)) p.identifier.0
all_more marks [] p = refl
all_more marks (q ∷ ps) p = all_more (with_mark marks q.identifier.0) ps p

-- one that is read, and another
pub reads_more : (marks : List ℕ) (ps : List Place) (p : Place) → leb p.role 4 ≡ true → with_marks marks (ids_read (ps ++ p ∷ [])) ≡ with_mark (with_marks marks (ids_read ps)) p.identifier.0
reads_more marks [] p e = ap (λ b. with_marks marks (ids (elim b as (λ _. List Place) [ true ↦ p ∷ [] | false ↦ [] ]))) e
reads_more marks (q ∷ ps) p e = elim (leb q.role 4) as (λ b. with_marks marks (ids (elim b as (λ _. List Place) [ true ↦ q ∷ select (λ (r : Place). leb r.role 4) (ps ++ p ∷ []) | false ↦ select (λ (r : Place). leb r.role 4) (ps ++ p ∷ []) ]))
    ≡ with_mark (with_marks marks (ids (elim b as (λ _. List Place) [ true ↦ q ∷ select (λ (r : Place). leb r.role 4) ps | false ↦ select (λ (r : Place). leb r.role 4) ps ]))) p.identifier.0) [
      | true ↦ reads_more (with_mark marks q.identifier.0) ps p e
      | false ↦ reads_more marks ps p e
    ]

pub reads_same : (marks : List ℕ) (ps : List Place) (p : Place) → leb p.role 4 ≡ false → with_marks marks (ids_read (ps ++ p ∷ [])) ≡ with_marks marks (ids_read ps)
reads_same marks [] p e = ap (λ b. with_marks marks (ids (elim b as (λ _. List Place) [ true ↦ p ∷ [] | false ↦ [] ]))) e
reads_same marks (q ∷ ps) p e = elim (leb q.role 4) as (λ b. with_marks marks (ids (elim b as (λ _. List Place) [ true ↦ q ∷ select (λ (r : Place). leb r.role 4) (ps ++ p ∷ []) | false ↦ select (λ (r : Place). leb r.role 4) (ps ++ p ∷ []) ]))
    ≡ with_marks marks (ids (elim b as (λ _. List Place) [ true ↦ q ∷ select (λ (r : Place). leb r.role 4) ps | false ↦ select (λ (r : Place). leb r.role 4) ps ]))) [
      | true ↦ reads_same (with_mark marks q.identifier.0) ps p e
      | false ↦ reads_same marks ps p e
    ]

-- written places among which one is marked
pub any_written : (marks : List ℕ) (ps : List Place) → list_any (λ (p : Place). eqb p.role 5 && is_marked marks p.identifier.0) ps ≡ any (is_marked marks) (ids_written ps)
any_written marks [] = refl
any_written marks (p ∷ ps) = elim (eqb p.role 5) as (λ b. (b && is_marked marks p.identifier.0 || list_any (λ (q : Place). eqb q.role 5 && is_marked marks q.identifier.0) ps)
    ≡ any (is_marked marks) (ids (elim b as (λ _. List Place) [ true ↦ p ∷ select (λ (q : Place). eqb q.role 5) ps | false ↦ select (λ (q : Place). eqb q.role 5) ps ]))) [
      | true ↦ ap (λ b. is_marked marks p.identifier.0 || b) (any_written marks ps)
      | false ↦ any_written marks ps
    ]

pub is_marked_not : (marks : List ℕ) (x : ℕ) → get_or marks x 0 ≡ 0 → is_marked marks x ≡ false
is_marked_not marks x h = ap not (eq-eqb (get_or marks x 0) 0 h)
