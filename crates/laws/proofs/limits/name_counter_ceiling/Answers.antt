use Rattle.laws.proofs.limits.name_counter_ceiling.Goals as goal
use Rattle.laws.proofs.Texts.{name_counter_below}

pub returns-clause-holds : goal.returns-clause-holds
returns-clause-holds c = name_counter_below
