use Rattle.laws.proofs.names.name_tries.Goals as goal
use Rattle.laws.proofs.Naming.{made_names_are_new}

pub returns-clause-new : goal.returns-clause-new
returns-clause-new c = made_names_are_new
