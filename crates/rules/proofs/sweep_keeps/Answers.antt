use Rattle.std.proofs.Common.{rules}
use Rattle.rules.proofs.sweep_keeps.Goals as goal
use Rattle.rules.proofs.Sweeping.{keep_lawful, sweep_lawful, sweep_least}

pub returns-then-acts : goal.returns-then-acts
returns-then-acts c = record { row = search rules; laws = (keep_lawful, (sweep_lawful, sweep_least)) }

pub returns-else-acts : goal.returns-else-acts
returns-else-acts c = record { row = search rules; laws = (keep_lawful, (sweep_lawful, sweep_least)) }
