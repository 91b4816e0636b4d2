use Rattle.std.proofs.Common.{drop}
use Rattle.read_write.specs.Written.{written_in}
use Rattle.read_write.proofs.PlaceMarks.{Marking}
use Rattle.read_write.proofs.turn.Turn.mark_places.Given as goal

abbrev pub invariant-loop-place : goal.invariant-loop-place
invariant-loop-place l = Marking l.self.base l.self.own (written_in l.places) (written_in (drop l.place-index l.places)) l.initial.marks l.marks
