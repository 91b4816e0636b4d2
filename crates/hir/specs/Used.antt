-- Rows that are used: those before the used count, in a table that has so many.
use Rattle.std.specs.Prelude.{◌≡◌, ℕ, ◌+◌, ◌<◌, ◌≤◌, List, length, take, drop, Option, MatchOption, slice_index_or}
use Rattle.std.specs.Borrow.{Bor}
use Rattle.hir.specs.declared.rows.Run.{Run}

-- A run fits if it ends within the used rows, an empty one too.
pub record FitsRun {A : Type 0} (table : List A) (used : ℕ) (run : Run) : Type 0 where
  pub used_rows : run.first + run.count ≤ used
  pub rows : run.first + run.count ≤ length table

-- the rows of a run
abbrev pub in_run : {A : Type 0} → List A → Run → List A
in_run table run = take run.count (drop run.first table)

-- A reader answers the rows of a run exactly if it fits.
abbrev pub ReadsRun : {A : Type 0} → List A → ℕ → Run → Option (Bor (List A)) → Type 0
ReadsRun table used run r = MatchOption r (FitsRun table used run → ⊥) (λ x. FitsRun table used run × (x.now ≡ in_run table run))

-- A number is used if its row is.
pub record Used {A : Type 0} (table : List A) (used number : ℕ) : Type 0 where
  pub used_row : number < used
  pub row : number < length table

-- A reader answers the row of a number exactly if it is used.
abbrev pub ReadsRow : {A : Type 0} → List A → ℕ → ℕ → Option (Bor A) → Type 0
ReadsRow table used number r = MatchOption r (Used table used number → ⊥) (λ x. Used table used number × (x.now ≡ slice_index_or table number x.now))
