use Rattle.std.proofs.Common.{rules}
use Rattle.std.specs.List.{AllByRecursion}
use Rattle.hir.specs.Tables.{tables}
use Rattle.hir.specs.View.{view}
use Rattle.reading.specs.Stored.{function_seen}
use Rattle.refusals.specs.Walked.{Keyless}
use Rattle.refusals.proofs.Chains.{all_blocks_tell}
use Rattle.key_children.proofs.function_keyless.Goals as goal

pub returns : goal.returns
returns c =
    let f = c.args.function in
    all_blocks_tell (AllByRecursion (Keyless (view (tables f.store.now)))) (function_seen f).blocks _ _ c.all.result c.all.ensures.ran (cc) (λ k b q h. search rules)
