-- What is asked of the functions on the walk, on what the tables say.
use Rattle.std.specs.Prelude.{◌≡◌, ℕ, zero, suc, ◌+◌, ◌<◌, ◌≤◌, Bool, true, false, List, length, get_or, Some, None, Option, ◌==◌, slice_index_or}
use Rattle.std.specs.List.{AllByRecursion}
use Rattle.rules.specs.Lists.{select, gathered, within, Distinct}
use Rattle.rules.specs.Kinds.{phi_kind}
use Rattle.rules.specs.Views.{Bytes, PlaceV, InstructionV, BlockV, FunctionV, NameV, absent, named, promoted, Hir, role_is, is_element, writes, function_at, function_rows}
use Rattle.rules.specs.Names.{is_key}
use Rattle.rules.specs.Outline.{depth}
use Rattle.rules.specs.Drawn.{OrderedBlocks, inner_of, on_walk}

-- what holds of every function on the walk
abbrev pub OnWalk : Hir → ℕ → (FunctionV → Type 0) → Type 0
OnWalk h f P = (g : ℕ) → within g (on_walk depth h f) ≡ true → P (function_at h g)

-- no function lies deeper: of depth 1 a function has no inner functions
abbrev pub NoDeeper : ℕ → Hir → ℕ → Type 0
NoDeeper zero h f = ⊥
NoDeeper (suc d) h f = AllByRecursion (NoDeeper d h) (inner_of (function_at h f).blocks)

-- Each function on the walk is reached once, is not an appended one, and lies no deeper than 32.
pub record WalkSound (h : Hir) (f : ℕ) : Type 0 where
  pub deep : NoDeeper depth h f
  pub once : Distinct (on_walk depth h f)
  pub own : OnWalk h f (λ (g : FunctionV). g.appended ≡ false)

-- is it a phi?
abbrev pub is_phi : InstructionV → Bool
is_phi i = i.kind == phi_kind

-- after a row that is no phi comes no phi, and its order is greater
abbrev pub ComesAfter : InstructionV → InstructionV → Type 0
ComesAfter i j = is_phi i ≡ false → (is_phi j ≡ false) × (i.order < j.order)

-- so of any two neighbours
abbrev pub Rising : List InstructionV → Type 0
Rising is = (k : ℕ) (d : InstructionV) → k + 1 < length is → ComesAfter (slice_index_or is k d) (slice_index_or is (k + 1) d)

-- the most elements of a block
abbrev pub elements_limit : ℕ
elements_limit = 256

-- The rows that a block lists rise, and not too many are elements.
pub record RowsOrdered (is : List InstructionV) : Type 0 where
  pub rising : Rising is
  pub elements : length (select is_element is) ≤ elements_limit

-- so in each block
abbrev pub FunctionOrdered : FunctionV → Type 0
FunctionOrdered g = AllByRecursion (λ (b : BlockV). RowsOrdered b.rows) g.blocks

-- The listed rows of a function write no identifier twice, and none but a phi reads what its block writes at or after it.
pub record WritesSound (g : FunctionV) : Type 0 where
  pub once : Distinct (gathered writes (function_rows g))
  pub ordered : OrderedBlocks g.blocks

-- the bytes of an identifier's name
abbrev pub bytes_if : NameV → Option Bytes
bytes_if absent = None
bytes_if (named n) = Some n
bytes_if (promoted n) = Some n

-- the name of the identifier of this number
abbrev pub name_of : Hir → ℕ → Option Bytes
name_of h x = bytes_if (get_or h.identifiers x (record { declaration = 0; name = absent })).name

-- a child's identifier is not named key
abbrev pub ChildKeyless : Hir → PlaceV → Type 0
ChildKeyless h p = role_is 4 p ≡ true → is_key (name_of h p.identifier) ≡ false

-- an element has no child that is
abbrev pub Keyless : Hir → InstructionV → Type 0
Keyless h i = is_element i ≡ true → AllByRecursion (ChildKeyless h) i.places

-- so in each block
abbrev pub FunctionKeyless : Hir → FunctionV → Type 0
FunctionKeyless h g = AllByRecursion (λ (b : BlockV). AllByRecursion (Keyless h) b.rows) g.blocks
