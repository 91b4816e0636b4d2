use Rattle.std.proofs.Common.{take}
use Rattle.sweep.specs.Marks.{ids, with_marks}
use Rattle.sweep.specs.Marking.{LeavesMarks}
use Rattle.sweep.proofs.mark.Marking.mark_terminal.Given as goal

abbrev pub invariant-loop-place : goal.invariant-loop-place
invariant-loop-place l = LeavesMarks l.initial.self l.self (with_marks l.initial.self.marks.now (ids (take l.place-index l.place-items)))
