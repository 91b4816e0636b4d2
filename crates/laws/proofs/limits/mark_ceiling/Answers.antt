use Rattle.laws.proofs.limits.mark_ceiling.Goals as goal
use Rattle.laws.proofs.Ceilings.{mark_below, mark_rises}

pub returns-clause-holds : goal.returns-clause-holds
returns-clause-holds c = (mark_below, mark_rises)
