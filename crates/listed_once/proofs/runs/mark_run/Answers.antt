use Rattle.std.proofs.Common.{arith}
use Rattle.listed_once.proofs.Covered.{run_marked}
use Rattle.listed_once.proofs.runs.mark_run.Goals as goal

pub returns : goal.returns
returns c = run_marked c.args.run _ c.mark_all.result c.args.marks.now c.mark_all.new.marks c.requires (omega arith) c.mark_all.ensures.free c.mark_all.ensures.marked
