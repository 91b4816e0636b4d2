use Rattle.read_write.proofs.RowMarks.{rows_more, rows_refused}
use Rattle.read_write.proofs.turn.Turn.list_sound.Goals as goal

pub returns-then-not-row_sound : goal.returns-then-not-row_sound
returns-then-not-row_sound c = rows_refused _ c.in-Some.number.now c.in-Some.ensures.steps c.loop-number.invariant c.requires.low c.if-not-row_sound.ensures

pub loop-number-preserved : goal.loop-number-preserved
loop-number-preserved c = rows_more _ c.in-Some.number.now c.in-Some.ensures.steps c.loop-number.invariant c.args.self.above c.if-not-row_sound.ensures
