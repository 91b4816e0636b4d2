use Rattle.laws.proofs.allowances.blocks_left.Goals as goal
use Rattle.laws.proofs.Sharing.{every_step_within_its_share}

pub returns-clause-shares : goal.returns-clause-shares
returns-clause-shares c = every_step_within_its_share
