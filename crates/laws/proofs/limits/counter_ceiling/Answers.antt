use Rattle.laws.proofs.limits.counter_ceiling.Goals as goal
use Rattle.laws.proofs.Ceilings.{counter_below}

pub returns-clause-holds : goal.returns-clause-holds
returns-clause-holds c = counter_below
