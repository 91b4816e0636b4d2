-- Runs marked one after another: what the marks say of those so far.
use Rattle.std.proofs.Common.{Bool, true, false, MatchBool, ◌≤◌, ◌≡◌, ℕ, ◌+◌, ◌-◌, ◌<◌, cond, ◌⊎◌, List, length, get_or, sym, ap, ◌∙◌, subst, inl, inr, add-one, arith}
use Rattle.std.proofs.lemmas.List.{get_or_default}
use Rattle.std.proofs.lemmas.Bool.{cases_eq}
use Rattle.std.proofs.lemmas.Bool.Decides.{leb_tells}
use Rattle.hir.specs.declared.rows.Run.{Run}
use Rattle.hir.specs.declared.rows.BasicBlock.{BasicBlock}
use Rattle.hir.specs.View.{null_block}
use Rattle.hir.specs.WellFormed.{Clear}
use Rattle.hir.proofs.Runs.{clear_other_way, clear_unlike}
use Rattle.listed_once.specs.Marking.{NoMarks, Unmarked, Marked, MarksRun, AllClear, list_or_preds}

pub at_first : (run : ℕ → Run) (ms : List ℕ) → NoMarks ms → Marked run 0 ms
at_first run ms z = record { apart = λ a b h. absurd (omega arith); marked = λ a k h. absurd (omega arith); seen = λ x h. let e = z x in absurd (omega arith) }

-- two runs are apart or share a number
abbrev Shared : Run → Run → Type 0
Shared a b = (j : ℕ) × (k : ℕ) × (j < a.count) × (k < b.count) × (a.first + j ≡ b.first + k)

clear_or_shared : (a b : Run) → Clear a b ⊎ Shared a b
clear_or_shared a b =
    elim (cases_eq a.count 0) [
      | inl e ↦ inl (inl e)
      | inr m ↦
          elim (cases_eq b.count 0) [
            | inl e ↦ inl (inr (inl e))
            | inr n ↦
                elim (leb_tells (a.first + a.count) b.first) [
                  | inl h ↦ inl (inr (inr (inl h.1)))
                  | inr h ↦
                      elim (leb_tells (b.first + b.count) a.first) [
                        | inl g ↦ inl (inr (inr (inr g.1)))
                        | inr g ↦
                            elim (leb_tells a.first b.first) [
                              | inl l ↦ let p = h.1 in let q = g.1 in let r = l.1 in inr (b.first - a.first, 0, omega arith, omega arith, omega arith)
                              | inr l ↦ let p = h.1 in let q = g.1 in let r = l.1 in inr (0, a.first - b.first, omega arith, omega arith, omega arith)
                            ]
                      ]
                ]
          ]
    ]

-- a run that is marked and one that is not are apart
apart_from : (a b : Run) (ms : List ℕ) → ((k : ℕ) → k < a.count → 0 < get_or ms (a.first + k) 0) → Unmarked b ms → Clear a b
apart_from a b ms m u = elim (clear_or_shared a b) [
  | inl h ↦ h
  | inr s ↦ let p = m s.0 s.2 in let q = u s.1 s.3 in absurd (omega (arith, subst (λ x. 0 < get_or ms x 0) s.4 p))
]

pub one_more : (run : ℕ → Run) (n : ℕ) (ms ns : List ℕ) → Marked run n ms → MarksRun (run n) ms ns → Marked run (n + 1) ns
one_more run n ms ns s m =
    let beside : (a : ℕ) → a < n → Clear (run a) (run n) = λ a h. apart_from (run a) (run n) ms (λ k g. s.marked a k h g) m.free in
    record {
      apart = λ a b ha hb ne. elim (cases_eq a n) [
        | inl ea ↦ elim (cases_eq b n) [
          | inl eb ↦ absurd (ne (omega arith))
          | inr nb ↦ subst (λ x. Clear (run x) (run b)) (sym ea) (clear_other_way (run b) (run n) (beside b (omega arith)))
        ]
        | inr na ↦ elim (cases_eq b n) [
          | inl eb ↦ subst (λ x. Clear (run a) (run x)) (sym eb) (beside a (omega arith))
          | inr nb ↦ s.apart a b (omega arith) (omega arith) ne
        ]
      ];
      marked = λ a k ha hk. elim (cases_eq a n) [
        | inl ea ↦ subst (λ x. (j : ℕ) → j < (run x).count → 0 < get_or ns ((run x).first + j) 0) (sym ea) m.marked k hk
        | inr na ↦ m.kept ((run a).first + k) (s.marked a k (omega arith) hk)
      ];
      seen = λ x h. elim (m.only x h) [
        | inl o ↦ let w = s.seen x o in (w.0, w.1, omega arith, w.3, w.4)
        | inr o ↦ (n, o.0, omega arith, o.1, o.2)
      ];
    }

pub refused : (run : ℕ → Run) (n m : ℕ) (ms : List ℕ) → Marked run n ms → (Unmarked (run n) ms → ⊥) → n < m → AllClear run m → ⊥
refused run n m ms s u h c = u (λ k g. elim (cases_eq (get_or ms ((run n).first + k) 0) 0) [
  | inl e ↦ e
  | inr e ↦ let w = s.seen ((run n).first + k) (omega arith) in absurd (clear_unlike (run w.0) (run n) w.1 k (c w.0 n (omega arith) h (omega arith)) w.3 g w.4)
])

-- the lists of blocks come first, and then their predecessor runs
pub as_list : (bs : List BasicBlock) (a : ℕ) → a < length bs → (get_or bs a null_block).instructions ≡ list_or_preds bs a
as_list bs a h = elim (leb_tells (a + 1) (length bs)) [
  | inl t ↦ sym (ap (λ b. cond b (get_or bs a null_block).instructions (get_or bs (a - length bs) null_block).preds) (rw add-one at t.0))
  | inr t ↦ let p = t.1 in absurd (omega arith)
]

pub as_preds : (bs : List BasicBlock) (j : ℕ) → (get_or bs j null_block).preds ≡ list_or_preds bs (length bs + j)
as_preds bs j = elim (leb_tells (length bs + j + 1) (length bs)) [
  | inl t ↦ let p = t.1 in absurd (omega arith)
  | inr t ↦ let e : j ≡ length bs + j - length bs = omega arith in
      ap (λ i. (get_or bs i null_block).preds) e ∙ sym (ap (λ b. cond b (get_or bs (length bs + j) null_block).instructions (get_or bs (length bs + j - length bs) null_block).preds) (rw add-one at t.0))
]

-- the same for whatever stands at a row
pub list_at : (bs : List BasicBlock) (i : ℕ) (d : BasicBlock) (r : Run) → i < length bs → r ≡ (get_or bs i d).instructions → r ≡ list_or_preds bs (0 + i)
list_at bs i d r l e = let z : 0 + i ≡ i = omega arith in rw z (rw (get_or_default bs i d null_block l) at e ∙ as_list bs i l)

pub preds_at : (bs : List BasicBlock) (i : ℕ) (d : BasicBlock) (r : Run) → i < length bs → r ≡ (get_or bs i d).preds → r ≡ list_or_preds bs (length bs + i)
preds_at bs i d r l e = rw (get_or_default bs i d null_block l) at e ∙ as_preds bs i

-- what marking all of them tells
pub all_clear : (r : Bool) (run : ℕ → Run) (n k : ℕ) (ms : List ℕ) → n ≡ k → MatchBool r (Marked run n ms) ((m : ℕ) → n ≤ m → AllClear run m → ⊥) → MatchBool r (AllClear run k) (AllClear run k → ⊥)
all_clear true run n k ms e h = subst (AllClear run) e h.apart
all_clear false run n k ms e h = λ c. h k (omega arith) c
