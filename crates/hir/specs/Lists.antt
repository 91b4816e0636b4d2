-- Lists of blocks: a block appended with its list, a new list for a block, and a list made shorter in its own place. What new rows must
-- have so that a store stays well formed.
use Rattle.std.specs.Prelude.{◌≡◌, ℕ, ◌+◌, ◌<◌, ◌≢◌, List, length, get_or, slice_index_or}
use Rattle.std.proofs.Math.Seq.{paste}
use Rattle.std.specs.List.{AllByRecursion}
use Rattle.hir.specs.declared.rows.Run.{Run}
use Rattle.hir.specs.declared.rows.BasicBlock.{BasicBlock}
use Rattle.hir.specs.declared.rows.HirFunction.{HirFunction}
use Rattle.hir.specs.Tables.{Tables, hold_numbers, with_numbers, with_block, over_block}
use Rattle.hir.specs.Used.{in_run}
use Rattle.hir.specs.View.{rows, null_run, null_block, null_function}
use Rattle.hir.specs.WellFormed.{RunFits, Pairwise, Unlike, FunctionFits, FunctionsApart}

-- a block with this list
abbrev pub listing_run : BasicBlock → Run → BasicBlock
listing_run b run = record { kind = b.kind; terminal = b.terminal; detail = b.detail; places = b.places; instructions = run; preds = b.preds }

-- the run that an appended list takes
abbrev pub next_run : Tables → List ℕ → Run
next_run t xs = record { first = t.counts.numbers; count = length xs }

-- A block appended, with its list.

abbrev pub with_listed_block : Tables → BasicBlock → List ℕ → Tables
with_listed_block t b xs = with_block (with_numbers t xs) (listing_run b (next_run t xs))

-- a list that a block can have: used rows, none of them twice
pub record ListFits (t : Tables) (xs : List ℕ) : Type 0 where
  pub listed : AllByRecursion (λ n. n < t.counts.instructions) xs
  pub once : Pairwise ◌≢◌ xs

-- no block lists one of these rows; a new block has no predecessors
pub record BlockFitsIn (t : Tables) (b : BasicBlock) (xs : List ℕ) : Type 0 where
  pub places : RunFits b.places t.counts.places
  pub preds : b.preds ≡ null_run
  pub list : ListFits t xs
  pub unlisted : AllByRecursion (λ (c : BasicBlock). Unlike (in_run (rows t).numbers c.instructions) xs) (rows t).blocks

-- A function appended: its blocks are no other's.
pub record FunctionFitsIn (t : Tables) (f : HirFunction) : Type 0 where
  pub fits : FunctionFits t.counts f
  pub apart : AllByRecursion (λ (g : HirFunction). FunctionsApart g f) (rows t).functions

-- A new list for a block.

-- the number of the k-th block of function f
abbrev pub block_number : Tables → ℕ → ℕ → ℕ
block_number t f k = (get_or t.functions f null_function).blocks.first + k

abbrev pub block_of : Tables → ℕ → ℕ → BasicBlock
block_of t f k = slice_index_or t.blocks (block_number t f k) null_block

abbrev pub with_new_list : Tables → ℕ → ℕ → List ℕ → Tables
with_new_list t f k xs = over_block (with_numbers t xs) (block_number t f k) (listing_run (block_of t f k) (next_run t xs))

-- function f is used and has a k-th block
pub record HasBlock (t : Tables) (f k : ℕ) : Type 0 where
  pub function : f < t.counts.functions
  pub block : k < (get_or t.functions f null_function).blocks.count

-- no other block lists one of these rows
abbrev pub UnlistedBut : Tables → ℕ → List ℕ → Type 0
UnlistedBut t n xs = (i : ℕ) → i < t.counts.blocks → i ≢ n → Unlike (in_run (rows t).numbers (get_or t.blocks i null_block).instructions) xs

-- A list made shorter: written over the old one, from its start.

abbrev pub thinned_run : Tables → ℕ → ℕ → List ℕ → Run
thinned_run t f k xs = record { first = (block_of t f k).instructions.first; count = length xs }

abbrev pub with_thinned_list : Tables → ℕ → ℕ → List ℕ → Tables
with_thinned_list t f k xs = over_block (hold_numbers t t.counts (paste t.numbers (block_of t f k).instructions.first xs (length xs))) (block_number t f k) (listing_run (block_of t f k) (thinned_run t f k xs))
