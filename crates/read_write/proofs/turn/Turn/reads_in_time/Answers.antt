use Rattle.std.proofs.Common.{rules, tests}
use Rattle.std.proofs.lemmas.Iterator.{YieldsList-from_slice}
use Rattle.refusals.proofs.Tests.{all_tells, when_like}
use Rattle.read_write.proofs.PlaceMarks.{InTime, all_in_time, each_in_time}
use Rattle.read_write.proofs.turn.Turn.reads_in_time.Goals as goal

pub returns : goal.returns
returns c =
    when_like c.all.result (all_in_time c.args.self.own c.args.marks.now c.args.places.now) (each_in_time c.args.self.own c.args.marks.now c.args.places.now)
    (all_tells c.args.places.now (InTime c.args.self.own c.args.marks.now) _ _ c.all.result c.all.ensures.ran (YieldsList-from_slice c.args.places.now cc) (λ x b q k. search (rules, tests)))
