use Rattle.hir.proofs.Frames.{kept_then}
use Rattle.dead_code_elimination.proofs.rewrite_block.Goals as goal

pub returns-clause-kept : goal.returns-clause-kept
returns-clause-kept g c = kept_then c.set_block_list.ensures.does.kept c.eliminate.ensures.does.kept
