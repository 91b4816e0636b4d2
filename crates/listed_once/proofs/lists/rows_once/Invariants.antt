use Rattle.listed_once.proofs.Read.{Read}
use Rattle.listed_once.proofs.lists.rows_once.Given as goal

abbrev pub invariant-loop-row : goal.invariant-loop-row
invariant-loop-row l = Read l.blocks l.numbers l.block-index l.row-index l.marks

abbrev pub invariant-loop-block : goal.invariant-loop-block
invariant-loop-block l = Read l.blocks l.numbers l.block-index 0 l.marks
