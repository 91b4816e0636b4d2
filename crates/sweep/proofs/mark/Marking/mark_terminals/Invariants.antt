use Rattle.std.proofs.Common.{drop}
use Rattle.reading.specs.Stored.{function_seen}
use Rattle.sweep.specs.Marks.{terminals_marked}
use Rattle.sweep.specs.Marking.{LeavesMarks}
use Rattle.sweep.proofs.mark.Marking.mark_terminals.Given as goal

abbrev pub invariant-loop-k : goal.invariant-loop-k
invariant-loop-k l = LeavesMarks l.initial.self l.self (terminals_marked l.initial.self.marks.now (drop l.k (function_seen l.initial.self.function).blocks))
