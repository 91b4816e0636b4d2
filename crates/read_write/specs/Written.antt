-- Identifiers that are marked when they are written. A mark is a number: above the base it is of this function, and the block that is
-- looked at has a number of its own, above those of the function's blocks before.
use Rattle.std.specs.Prelude.{◌≡◌, ℕ, ◌≤◌, true, false, ◌≢◌, List, [], ◌∷◌, ◌==◌, nat_le, slice_index}
use Rattle.rules.specs.Lists.{within, gathered, Distinct}
use Rattle.rules.specs.Views.{InstructionV, reads, writes}
use Rattle.rules.specs.Drawn.{Ordered}
use Rattle.hir.specs.declared.rows.Place.{Place}
use Rattle.refusals.specs.Walked.{is_phi}

-- the identifiers of the written places, and of those that are read
abbrev pub written_in : List Place → List ℕ
written_in [] = []
written_in (p ∷ ps) = elim (p.role == 5) [ true ↦ p.identifier.0 ∷ written_in ps | false ↦ written_in ps ]

abbrev pub read_in : List Place → List ℕ
read_in [] = []
read_in (p ∷ ps) = elim (nat_le p.role 4) [ true ↦ p.identifier.0 ∷ read_in ps | false ↦ read_in ps ]

-- These identifiers can be marked: each is there once, and is not marked in this function.
pub record Markable (base : ℕ) (ws ms : List ℕ) : Type 0 where
  pub once : Distinct ws
  pub free : (x : ℕ) → within x ws ≡ true → slice_index ms x ≤ base

-- They are marked, with numbers from low to turn, and no others.
pub record Marked (base low turn : ℕ) (ws before after : List ℕ) : Type 0 where
  pub able : Markable base ws before
  pub marked : (x : ℕ) → within x ws ≡ true → (low ≤ slice_index after x) × (slice_index after x ≤ turn)
  pub others : (x : ℕ) → within x ws ≡ false → slice_index after x ≡ slice_index before x

-- none of these has the number
abbrev pub Unnumbered : ℕ → List ℕ → List ℕ → Type 0
Unnumbered turn xs ms = (x : ℕ) → within x xs ≡ true → slice_index ms x ≢ turn

-- A row: what it writes can be marked, and unless it is a phi it reads nothing that it writes or that has the block's number.
pub record RowSound (base turn : ℕ) (i : InstructionV) (ms : List ℕ) : Type 0 where
  pub able : Markable base (writes i) ms
  pub early : is_phi i ≡ false → (x : ℕ) → within x (reads i) ≡ true → (within x (writes i) ≡ false) × (slice_index ms x ≢ turn)

pub record RowDone (base turn : ℕ) (i : InstructionV) (before after : List ℕ) : Type 0 where
  pub sound : RowSound base turn i before
  pub marked : Marked base turn turn (writes i) before after

-- The rows of a block.
pub record RowsSound (base : ℕ) (is : List InstructionV) (ms : List ℕ) : Type 0 where
  pub able : Markable base (gathered writes is) ms
  pub ordered : Ordered is

pub record RowsDone (base turn : ℕ) (is : List InstructionV) (before after : List ℕ) : Type 0 where
  pub marked : Marked base turn turn (gathered writes is) before after
  pub ordered : Ordered is
