-- The marks after those of a run are set.
use Rattle.std.proofs.Common.{◌≡◌, ℕ, ◌+◌, ◌-◌, ◌<◌, ◌≤◌, Bool, true, false, MatchBool, List, length, take, drop, replicate, get_or, length-take, length-drop, subst, ◌⊎◌, inl, inr, sym, ◌∙◌, rules, arith}
use Rattle.std.specs.List.{AllByRecursion}
use Rattle.std.proofs.lemmas.List.{places, get_or_default}
use Rattle.std.proofs.lemmas.List.Elements.{All-from_recursion, recursion_from_All}
use Rattle.std.proofs.lemmas.Bool.Decides.{leb_tells}
use borrow.Rule.Slice.PartMut.{put_mid}
use Rattle.hir.specs.declared.rows.Run.{Run}
use Rattle.hir.specs.Used.{in_run}
use Rattle.hir.specs.WellFormed.{RunFits}
use Rattle.hir.proofs.Runs.{getD_run, covers, covered}
use Rattle.listed_once.specs.Marking.{MarksRun, Unmarked}

-- the marks afterwards
abbrev after : Run → List ℕ → List ℕ
after run ms = put_mid run.first run.count ms (replicate run.count 1)

inside : (run : Run) (ms : List ℕ) → RunFits run (length ms) → (k : ℕ) → k < run.count → get_or (after run ms) (run.first + k) 0 ≡ 1
inside run ms f k h = search (rules, places)

outside : (run : Run) (ms : List ℕ) → RunFits run (length ms) → (x : ℕ) → (x < run.first) ⊎ (run.first + run.count ≤ x) → get_or (after run ms) x 0 ≡ get_or ms x 0
outside run ms f x (inl h) = search (rules, places)
outside run ms f x (inr h) = search (rules, places)

-- a mark lies in the run, or outside it
where_marked : (run : Run) (x : ℕ) → ((k : ℕ) × (k < run.count) × (run.first + k ≡ x)) ⊎ ((x < run.first) ⊎ (run.first + run.count ≤ x))
where_marked run x = elim (leb_tells run.first x) [
  | inl l ↦ elim (leb_tells (run.first + run.count) x) [
    | inl g ↦ inr (inr g.1)
    | inr g ↦ let p = l.1 in let q = g.1 in inl (x - run.first, omega arith, omega arith)
  ]
  | inr l ↦ inr (inl l.1)
]

marks_run : (run : Run) (ms : List ℕ) → RunFits run (length ms) → Unmarked run ms → MarksRun run ms (after run ms)
marks_run run ms f free = record {
  free = free;
  marked = λ k h. let e = inside run ms f k h in omega arith;
  kept = λ x h. elim (where_marked run x) [
    | inl i ↦ subst (λ y. 0 < get_or (after run ms) y 0) i.2 (let e = inside run ms f i.0 i.1 in omega arith)
    | inr o ↦ let e = outside run ms f x o in omega arith
  ];
  only = λ x h. elim (where_marked run x) [
    | inl i ↦ inr i
    | inr o ↦ let e = outside run ms f x o in inl (omega arith)
  ];
}

abbrev Zero : ℕ → Type 0
Zero m = m ≡ 0

to_free : (run : Run) (ms : List ℕ) → RunFits run (length ms) → AllByRecursion Zero (in_run ms run) → Unmarked run ms
to_free run ms f h k l = sym (getD_run run ms k 0 l) ∙ All-from_recursion Zero (in_run ms run) h k 0 (covered run ms k l (omega arith))

from_free : (run : Run) (ms : List ℕ) → Unmarked run ms → AllByRecursion Zero (in_run ms run)
from_free run ms u = recursion_from_All Zero (in_run ms run) (λ k d l. let g = covers run ms k l in getD_run run ms k d g.0 ∙ get_or_default ms (run.first + k) d 0 g.1 ∙ u k g.0)

settle : (r : Bool) (run : Run) (ms : List ℕ) → RunFits run (length ms) → MatchBool r (AllByRecursion Zero (in_run ms run)) (AllByRecursion Zero (in_run ms run) → ⊥) → MatchBool r (MarksRun run ms (after run ms)) (Unmarked run ms → ⊥)
settle true run ms f h = marks_run run ms f (to_free run ms f h)
settle false run ms f h = λ u. h (from_free run ms u)

pub run_marked : (run : Run) (n : ℕ) (r : Bool) (ms ns : List ℕ) → RunFits run (length ms) → n ≡ run.count → MatchBool r (AllByRecursion Zero (take n (drop run.first ms))) (AllByRecursion Zero (take n (drop run.first ms)) → ⊥) → ns ≡ replicate (length (take n (drop run.first ms))) 1 → MatchBool r (MarksRun run ms (put_mid run.first n ms ns)) (Unmarked run ms → ⊥)
run_marked run n r ms ns f e h s =
    let c : length (take n (drop run.first ms)) ≡ run.count = simp (length-take, length-drop) (omega arith) in
    let g = subst (λ m. MatchBool r (AllByRecursion Zero (take m (drop run.first ms))) (AllByRecursion Zero (take m (drop run.first ms)) → ⊥)) e h in
    rw (e, s, c) (settle r run ms f g)
