use Rattle.laws.proofs.allowances.Tally.instructions_allowance.Goals as goal
use Rattle.laws.proofs.Sufficing.{instructions_suffice}

pub returns-clause-suffices : goal.returns-clause-suffices
returns-clause-suffices c = instructions_suffice
