use Rattle.std.proofs.Common.{ℕ, Bor, map, reverse}
use Rattle.hir.specs.Tables.{tables}
use Rattle.hir.specs.View.{instruction_at, rows}
use Rattle.sweep.specs.Marks.{all_passed}
use Rattle.sweep.specs.Marking.{HasMarked}
use Rattle.sweep.proofs.mark.Marking.mark_block.Given as goal

abbrev pub invariant-loop-number : goal.invariant-loop-number
invariant-loop-number l = HasMarked l.initial.self l.self (all_passed l.initial.self.marks.now (map (instruction_at (rows (tables l.initial.self.function.store.now))) (reverse (map (λ (m : Bor ℕ). m.now) l.yielded)))) l.new
