-- What an elimination is given, and what it leaves.
use Rattle.std.specs.Prelude.{◌≡◌, ℕ, ◌+◌, ◌<◌, ◌≤◌, ◌⊎◌, List, length, get_or, slice_index, slice_index_or}
use Rattle.std.specs.List.{AllByRecursion}
use Rattle.rules.specs.Eliminations.{Meaning, eliminated}
use Rattle.hir.specs.declared.rows.Counts.{Counts}
use Rattle.hir.specs.declared.rows.Run.{Run}
use Rattle.hir.specs.declared.rows.Store.{Store}
use Rattle.hir.specs.Tables.{Tables, tables, Held}
use Rattle.hir.specs.View.{null_block, null_function, view}
use Rattle.hir.specs.WellFormed.{WellFormed}
use Rattle.hir.specs.Lists.{block_of}
use Rattle.hir.specs.Frame.{Kept, without_list}

-- every mark byte is zero
abbrev pub Zero : List ℕ → Type 0
Zero marks = AllByRecursion (λ m. m ≡ 0) marks

-- One of the functions, and a zero mark byte for each identifier.
pub record Ready (c : Counts) (f : ℕ) (marks : List ℕ) : Type 0 where
  pub function : f < c.functions
  pub wide : c.identifiers ≤ length marks
  pub zero : Zero marks

-- the row is none of the run
abbrev pub Outside : Run → ℕ → Type 0
Outside run n = (n < run.first) ⊎ (run.first + run.count ≤ n)

-- no block of function f lists by this list number
abbrev pub OutsideLists : Tables → ℕ → ℕ → Type 0
OutsideLists t f n = (k : ℕ) → k < (get_or t.functions f null_function).blocks.count → Outside (block_of t f k).instructions n

-- What may change from t to u: for a block of function f, the run of its list; and the list numbers that these lists covered. All else
-- stays, byte for byte. No list number is taken, since the counts stay.
pub record OnlyLists (t u : Tables) (f : ℕ) : Type 0 where
  pub counts : u.counts ≡ t.counts
  pub text : u.text ≡ t.text
  pub identifiers : u.identifiers ≡ t.identifiers
  pub places : u.places ≡ t.places
  pub instructions : u.instructions ≡ t.instructions
  pub functions : u.functions ≡ t.functions
  pub numbers_long : length u.numbers ≡ length t.numbers
  pub numbers : (n : ℕ) → OutsideLists t f n → slice_index u.numbers n ≡ slice_index t.numbers n
  pub blocks_long : length u.blocks ≡ length t.blocks
  pub blocks : (n : ℕ) → without_list (slice_index_or u.blocks n null_block) ≡ without_list (slice_index_or t.blocks n null_block)
  pub other_blocks : (n : ℕ) → Outside (get_or t.functions f null_function).blocks n → slice_index_or u.blocks n null_block ≡ slice_index_or t.blocks n null_block

-- What an elimination does to function f: the store then says what the meaning says, is well formed again, nothing but lists has changed,
-- and the same slices are lent.
pub record Eliminates (m : Meaning) (before after : Store) (f : ℕ) : Type 0 where
  pub seen : view (tables after) ≡ eliminated m (view (tables before)) f
  pub well : WellFormed (tables after)
  pub kept : Kept (tables before) (tables after)
  pub only : OnlyLists (tables before) (tables after) f
  pub held : Held after before
