use Rattle.laws.proofs.allowances.worked_allowance.Goals as goal
use Rattle.laws.proofs.Worked.{worked_allowances}

pub returns-clause-worked : goal.returns-clause-worked
returns-clause-worked c = worked_allowances
