use Rattle.laws.proofs.allowances.Tally.identifiers_allowance.Goals as goal
use Rattle.laws.proofs.Sufficing.{identifiers_suffice}

pub returns-clause-suffices : goal.returns-clause-suffices
returns-clause-suffices c = identifiers_suffice
