-- Listed rows by the position that lists them.
use Rattle.std.specs.Prelude.{◌≡◌, ℕ, ◌+◌, ◌<◌, ◌≤◌, List, length, slice_index, slice_index_or}
use Rattle.hir.specs.declared.rows.BasicBlock.{BasicBlock}
use Rattle.std.specs.List.{AllByRecursion}
use Rattle.hir.specs.Used.{in_run}
use Rattle.hir.specs.View.{null_block}

-- how many rows block b lists, and the one at offset o
abbrev pub listing : List BasicBlock → ℕ → ℕ
listing bs b = (slice_index_or bs b null_block).instructions.count

abbrev pub listed_at : List BasicBlock → List ℕ → ℕ → ℕ → ℕ
listed_at bs ns b o = slice_index ns ((slice_index_or bs b null_block).instructions.first + o)

-- each list lies within the numbers
abbrev pub ListsFit : List BasicBlock → List ℕ → Type 0
ListsFit bs ns = (b : ℕ) → b < length bs → (slice_index_or bs b null_block).instructions.first + listing bs b ≤ length ns

-- each listed number is below a bound
abbrev pub ListedBelow : List BasicBlock → List ℕ → ℕ → Type 0
ListedBelow bs ns bound = (b o : ℕ) → b < length bs → o < listing bs b → listed_at bs ns b o < bound

-- no two positions list one row
abbrev pub ListedOnce : List BasicBlock → List ℕ → Type 0
ListedOnce bs ns =
    (b o b' o' : ℕ) → b < length bs → o < listing bs b → b' < length bs → o' < listing bs b'
    → listed_at bs ns b o ≡ listed_at bs ns b' o' → (b ≡ b') × (o ≡ o')

-- a block lists used rows, and names used blocks as its predecessors
pub record BlockNamed (ns : List ℕ) (rows blocks : ℕ) (b : BasicBlock) : Type 0 where
  pub listed : AllByRecursion (λ n. n < rows) (in_run ns b.instructions)
  pub preds : AllByRecursion (λ n. n < blocks) (in_run ns b.preds)
