use Rattle.laws.proofs.allowances.Tally.text_allowance.Goals as goal
use Rattle.laws.proofs.Ceilings.{text_suffices}

pub returns-clause-suffices : goal.returns-clause-suffices
returns-clause-suffices c = text_suffices
