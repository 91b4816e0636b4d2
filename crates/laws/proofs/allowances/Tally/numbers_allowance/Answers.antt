use Rattle.laws.proofs.allowances.Tally.numbers_allowance.Goals as goal
use Rattle.laws.proofs.Sufficing.{numbers_suffice}

pub returns-clause-suffices : goal.returns-clause-suffices
returns-clause-suffices c = numbers_suffice
