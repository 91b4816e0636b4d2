use Rattle.std.proofs.Common.{rules, tests}
use Rattle.std.proofs.lemmas.Iterator.{YieldsList-from_slice}
use Rattle.refusals.specs.Form.{BlockFormed}
use Rattle.refusals.proofs.Tests.{all_tells}
use Rattle.store_form.proofs.form.Used.blocks_formed.Goals as goal

pub returns : goal.returns
returns c = all_tells c.args.rows.now (BlockFormed c.args.self.now.counts c.args.self.now.places.now) _ _ c.all.result c.all.ensures.ran (YieldsList-from_slice c.args.rows.now cc) (λ x b q k. search (rules, tests))
