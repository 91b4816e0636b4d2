use Rattle.std.proofs.Common.{rules}
use Rattle.store_form.proofs.Parts.{one_counted}
use Rattle.store_form.proofs.instructions.reads_one.Goals as goal

pub returns : goal.returns
returns c = one_counted c.count.result c.args.places.now (search rules)
