use Rattle.std.proofs.Common.{arith, below_more}
use Rattle.std.proofs.ByRecursion.{All-get_or, All-from_get_or}
use Rattle.hir.specs.View.{null_block}
use Rattle.listed_once.specs.Listing.{BlockNamed}
use Rattle.listed_once.proofs.lists.lists_named.Goals as goal
use Rattle.listed_once.proofs.lists.lists_named.Goals.{then-not-run_below-via-then-not-run_below, then-not-run_below-via-else-not-run_below+then-not-run_below-2}

pub returns-then-not-run_below : goal.returns-then-not-run_below
returns-then-not-run_below c = λ h.
    let b = All-get_or (BlockNamed c.args.numbers.now c.args.rows c.args.used) c.args.blocks.now c.loop-block.block-index null_block (omega arith) h in
    elim c.then-not-run_below.branch [
      | then-not-run_below-via-then-not-run_below w ↦ w.if-not-run_below.ensures b.listed
      | then-not-run_below-via-else-not-run_below+then-not-run_below-2 w ↦ w.if-not-run_below-2.ensures b.preds
    ]

pub returns : goal.returns
returns c = All-from_get_or (BlockNamed c.args.numbers.now c.args.rows c.args.used) c.args.blocks.now null_block (λ i h. c.loop-block.invariant i (omega arith))

pub loop-block-preserved : goal.loop-block-preserved
loop-block-preserved c = below_more _ _ c.loop-block.invariant (record { listed = c.if-not-run_below.ensures; preds = c.if-not-run_below-2.ensures })
