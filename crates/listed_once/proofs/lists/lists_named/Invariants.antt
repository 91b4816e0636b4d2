use Rattle.std.proofs.Common.{ℕ, ◌<◌, get_or}
use Rattle.hir.specs.View.{null_block}
use Rattle.listed_once.specs.Listing.{BlockNamed}
use Rattle.listed_once.proofs.lists.lists_named.Given as goal

abbrev pub invariant-loop-block : goal.invariant-loop-block
invariant-loop-block l = (k : ℕ) → k < l.block-index → BlockNamed l.numbers l.rows l.used (get_or l.blocks k null_block)
