-- Loops that mark: one step more, by what it makes of the function and the marks.
use Rattle.std.proofs.Common.{◌≡◌, ℕ, ◌+◌, ◌≤◌, List, sym, ◌∙◌, subst, arith}
use Rattle.hir.specs.Tables.{tables}
use Rattle.reading.specs.declared.stored.StoredFunction.{StoredFunction}
use Rattle.reading.specs.Stored.{function_seen}
use Rattle.dead_code_elimination.specs.Elimination.{Zero}
use Rattle.sweep.specs.declared.mark.Marking.{Marking}
use Rattle.sweep.specs.Marks.{unmarked, round_passed, terminals_marked, MarksNeeded}
use Rattle.sweep.specs.Marking.{HasMarked, LeavesMarks}
use Rattle.sweep.proofs.Settling.{AllTerminals, OnlyNeeded, only_start, terminals_start, only_round, terminals_round, round_same, settled}
use Rattle.sweep.proofs.Reading.{function_rows_range, function_terminals_range}

pub leaves_then : {a b d : Marking} {ms ns : List ℕ} (F : StoredFunction → List ℕ → List ℕ) → LeavesMarks a b ms → LeavesMarks b d (F b.function b.marks.now) → F a.function ms ≡ ns → LeavesMarks a d ns
leaves_then F x y e = record { function = y.function ∙ x.function; held = y.held ∙ x.held; marks = y.marks ∙ (λ i. F (x.function i) (x.marks i)) ∙ e }

pub marked_then : {a b d : Marking} {ms ns : List ℕ} {n m : ℕ} (F : StoredFunction → List ℕ → List ℕ) → HasMarked a b ms n → HasMarked b d (F b.function b.marks.now) m → F a.function ms ≡ ns → HasMarked a d ns (n + m)
marked_then F x y e = record { leaves = leaves_then F x.leaves y.leaves e; newly = omega (arith, x.newly, y.newly) }

-- where branches of a loop's body join
pub joined : {a b d : Marking} {ms ns : List ℕ} {n m : ℕ} → d ≡ b → m ≡ n → ms ≡ ns → HasMarked a b ms n → HasMarked a d ns m
joined {a} e s q h = rw (e, s, ← q) h

-- Rounds.

-- nothing is marked that the function does not need, and what its terminals read is
pub record Settles (m : Marking) : Type 0 where
  pub only : OnlyNeeded (function_seen m.function).blocks m.marks.now
  pub terminals : AllTerminals (function_seen m.function).blocks m.marks.now

pub settles_start : {m n : Marking} → Zero m.marks.now → LeavesMarks m n (terminals_marked m.marks.now (function_seen m.function).blocks) → Settles n
settles_start {m} z h =
    let f = m.function in
    let bs = (function_seen f).blocks in
    record {
      only = rw (h.function, h.marks) (only_start bs m.marks.now z);
      terminals = rw (h.function, h.marks) (terminals_start bs m.marks.now (function_terminals_range (tables f.store.now) f.legible f.id.0 f.used m.marks.now m.wide));
    }

pub settles_round : {m n : Marking} {k : ℕ} → Settles m → HasMarked m n (round_passed m.marks.now (function_seen m.function).blocks) k → Settles n
settles_round {m} s h =
    let bs = (function_seen m.function).blocks in
    record {
      only = rw (h.leaves.function, h.leaves.marks) (only_round bs m.marks.now s.only);
      terminals = rw (h.leaves.function, h.leaves.marks) (terminals_round bs m.marks.now s.terminals);
    }

-- a round that marked nothing
pub settles_end : {m n : Marking} {k : ℕ} → k ≤ 0 → Settles m → HasMarked m n (round_passed m.marks.now (function_seen m.function).blocks) k → MarksNeeded (function_seen n.function).blocks n.marks.now
settles_end {m} {n} z s h =
    let f = m.function in
    let bs = (function_seen f).blocks in
    let same : unmarked m.marks.now ≤ unmarked (round_passed m.marks.now bs) = rw (← h.leaves.marks) (omega (arith, z, h.newly)) in
    let done : MarksNeeded bs (round_passed m.marks.now bs) = rw (round_same bs m.marks.now same) (settled bs m.marks.now s.only s.terminals same (function_rows_range (tables f.store.now) f.legible f.id.0 f.used m.marks.now m.wide)) in
    subst (λ (g : StoredFunction). MarksNeeded (function_seen g).blocks n.marks.now) (sym h.leaves.function) (subst (MarksNeeded bs) (sym h.leaves.marks) done)
