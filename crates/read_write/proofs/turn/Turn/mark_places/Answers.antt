use Rattle.std.proofs.Common.{sym, ◌∙◌, subst, arith}
use Rattle.read_write.proofs.PlaceMarks.{Marking, left_as, one_more, not_marked, written_next, written_not}
use Rattle.read_write.proofs.turn.Turn.mark_places.Goals as goal
use Rattle.read_write.proofs.turn.Turn.mark_places.Goals.{else-is_written-via-then-is_written+else-not-mark, else-is_written-via-else-is_written}

pub returns-then-not-mark : goal.returns-then-not-mark
returns-then-not-mark c = not_marked (left_as (written_next c.args.places.now c.loop-place.place-index (omega arith) (sym c.is_written.ensures ∙ c.if-is_written.true)) c.loop-place.invariant) c.if-not-mark.ensures

pub loop-place-preserved : goal.loop-place-preserved
loop-place-preserved c = elim c.else-is_written.branch [
  | else-is_written-via-then-is_written+else-not-mark w ↦
      subst (Marking _ _ _ _ _) (sym w.marks-is) (one_more c.args.self.above (left_as (written_next c.args.places.now c.loop-place.place-index (omega arith) (sym c.is_written.ensures ∙ w.if-is_written.true)) c.loop-place.invariant) w.if-not-mark.ensures)
  | else-is_written-via-else-is_written w ↦
      subst (Marking _ _ _ _ _) (sym w.marks-is) (left_as (written_not c.args.places.now c.loop-place.place-index (omega arith) (sym c.is_written.ensures ∙ w.if-is_written.false)) c.loop-place.invariant)
]
