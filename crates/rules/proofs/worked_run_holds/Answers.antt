use Rattle.std.proofs.Common.{refl}
use Rattle.rules.proofs.worked_run_holds.Goals as goal
use Rattle.rules.proofs.WorkedRun.{worked_run}

pub returns : goal.returns
returns c = record { answer = refl; run = worked_run }
