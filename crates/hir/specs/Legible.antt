-- What reading a store needs of it, lists and functions too: a well-formed store has it.
use Rattle.std.specs.Prelude.{ℕ, ◌<◌, List}
use Rattle.std.specs.List.{AllByRecursion}
use Rattle.hir.specs.declared.rows.Counts.{Counts}
use Rattle.hir.specs.declared.rows.BasicBlock.{BasicBlock}
use Rattle.hir.specs.Tables.{Tables}
use Rattle.hir.specs.Used.{in_run}
use Rattle.hir.specs.View.{rows}
use Rattle.hir.specs.WellFormed.{RunFits, IdentifierFits, FunctionFits, Readable}

-- a block's list lies within the list table, and names used rows
pub record BlockLegible (c : Counts) (numbers : List ℕ) (b : BasicBlock) : Type 0 where
  pub instructions : RunFits b.instructions c.numbers
  pub listed : AllByRecursion (λ n. n < c.instructions) (in_run numbers b.instructions)

pub record Legible (t : Tables) : Type 0 where
  pub readable : Readable t
  pub identifiers : AllByRecursion (IdentifierFits t.counts) (rows t).identifiers
  pub blocks : AllByRecursion (BlockLegible t.counts (rows t).numbers) (rows t).blocks
  pub functions : AllByRecursion (FunctionFits t.counts) (rows t).functions
