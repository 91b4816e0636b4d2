use Rattle.std.proofs.Common.{rules}
use Rattle.reading.specs.Stored.{function_seen}
use Rattle.refusals.specs.Walked.{RowsOrdered}
use Rattle.refusals.proofs.Chains.{all_blocks_tell}
use Rattle.block_order.proofs.function_ordered.Goals as goal

pub returns : goal.returns
returns c = all_blocks_tell RowsOrdered (function_seen c.args.function).blocks _ _ c.all.result c.all.ensures.ran (cc) (λ k b q h. search rules)
