use Rattle.laws.proofs.allowances.Tally.places_allowance.Goals as goal
use Rattle.laws.proofs.Sufficing.{places_suffice}

pub returns-clause-suffices : goal.returns-clause-suffices
returns-clause-suffices c = places_suffice
