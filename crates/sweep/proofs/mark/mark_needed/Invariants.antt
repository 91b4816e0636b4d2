use Rattle.sweep.specs.Marks.{unmarked}
use Rattle.sweep.specs.Marking.{LeavesMarks}
use Rattle.sweep.proofs.Steps.{Settles}
use Rattle.sweep.proofs.mark.mark_needed.Given as goal

abbrev pub invariant-loop-marking : goal.invariant-loop-marking
invariant-loop-marking l = Settles l.marking × LeavesMarks l.initial.marking l.marking l.marking.marks.now

abbrev pub decreases-loop-marking : goal.decreases-loop-marking
decreases-loop-marking l = unmarked l.marking.marks.now
