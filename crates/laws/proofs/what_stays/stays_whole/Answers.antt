use Rattle.laws.proofs.what_stays.stays_whole.Goals as goal
use Rattle.laws.proofs.Outside.{what_is_outside_stays}

pub returns-clause-stays : goal.returns-clause-stays
returns-clause-stays c = what_is_outside_stays
