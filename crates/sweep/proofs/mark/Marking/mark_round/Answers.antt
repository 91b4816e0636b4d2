use Rattle.std.proofs.Common.{◌-◌, arith}
use Rattle.rules.specs.Views.{block_rows}
use Rattle.reading.specs.declared.stored.StoredFunction.{StoredFunction}
use Rattle.reading.specs.Stored.{function_seen}
use Rattle.sweep.specs.Marks.{all_passed}
use Rattle.sweep.proofs.Reading.{round_more}
use Rattle.sweep.proofs.Steps.{marked_then}
use Rattle.sweep.proofs.mark.Marking.mark_round.Goals as goal

pub loop-k-preserved : goal.loop-k-preserved
loop-k-preserved c = marked_then (λ (f : StoredFunction) ms. all_passed ms (block_rows (function_seen f).blocks (c.loop-k.k - 1))) c.loop-k.invariant c.mark_block-new.ensures
    (round_more c.args.self.now.marks.now (function_seen c.args.self.now.function).blocks c.loop-k.k (omega arith) (omega arith))
