use Rattle.laws.proofs.names.tag_tries.Goals as goal
use Rattle.laws.proofs.Naming.{tags_are_free}

pub returns-clause-free : goal.returns-clause-free
returns-clause-free c = tags_are_free
