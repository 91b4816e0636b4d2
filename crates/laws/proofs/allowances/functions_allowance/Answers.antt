use Rattle.laws.proofs.allowances.functions_allowance.Goals as goal
use Rattle.laws.proofs.Sufficing.{functions_suffice, blocks_suffice}

pub returns-clause-suffices : goal.returns-clause-suffices
returns-clause-suffices c = (functions_suffice, blocks_suffice)
