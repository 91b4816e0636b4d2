use Rattle.std.proofs.Common.{take}
use Rattle.sweep.specs.Marks.{ids_read, with_marks}
use Rattle.sweep.specs.Marking.{HasMarked}
use Rattle.sweep.proofs.mark.Marking.mark_reads.Given as goal

abbrev pub invariant-loop-place : goal.invariant-loop-place
invariant-loop-place l = HasMarked l.initial.self l.self (with_marks l.initial.self.marks.now (ids_read (take l.place-index l.places))) l.new
