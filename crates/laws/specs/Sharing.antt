-- Loops over the rows of a block and over the blocks of a function: what is used, together with what is still to be walked is allowed,
-- does not rise.
use Rattle.std.specs.Prelude.{◌≡◌, ℕ, suc, ◌+◌, ◌-◌, ◌<◌, ◌≤◌, true, List, [], ◌∷◌, ◌++◌, length, drop}
use Rattle.rules.specs.Lists.{gathered, backwards, within, Distinct, Lists}
use Rattle.rules.specs.Views.{InstructionV, Hir, is_element, is_function, writes, block_rows, rows_at, function_at}
use Rattle.rules.specs.Emit.{Report}
use Rattle.rules.specs.Eliminations.{Meaning, Lawful}
use Rattle.rules.specs.Outline.{Walk, process_and_outline_jsx, passed, start_block, walk_block, outline_jsx_impl, depth}
use Rattle.rules.specs.Drawn.{inner, inner_of, on_walk, Accepts}
use Rattle.laws.specs.Allowances.{Counts, no_counts, walk_counts, rest_counts, ahead_counts, identifiers_allowed, instructions_allowed, numbers_allowed, places_allowed, blocks_allowed, functions_allowed}
use Rattle.laws.specs.Taking.{closing, passing, block_takes, takes, places, numbers}
use Rattle.laws.specs.Sufficing.{Formed, WalkFormed, blocks_in}

-- From one store and what is then allowed to the next and what is still allowed, with the list numbers and places taken on the way.
pub record WithinShare (h : Hir) (allowed : Counts) (h' : Hir) (left : Counts) (numbers_taken places_taken : ℕ) : Type 0 where
  pub identifiers : length h'.identifiers + identifiers_allowed left ≤ length h.identifiers + identifiers_allowed allowed
  pub instructions : h'.used_rows + instructions_allowed left ≤ h.used_rows + instructions_allowed allowed
  pub numbers : numbers_taken + numbers_allowed left ≤ numbers_allowed allowed
  pub places : places_taken + places_allowed left ≤ places_allowed allowed
  pub blocks : blocks_in h'.functions + blocks_allowed left ≤ blocks_in h.functions + blocks_allowed allowed
  pub functions : length h'.functions + functions_allowed left ≤ length h.functions + functions_allowed allowed

-- rows of that form that write no identifier twice
abbrev pub RowsAccepted : List InstructionV → Type 0
RowsAccepted rows = ((i : InstructionV) → Lists rows i → Formed i) × Distinct (gathered writes rows)

-- the functions that the walk reaches from block k of function f on, to a depth
abbrev pub reached_from : ℕ → Hir → ℕ → ℕ → List ℕ
reached_from d h f k = gathered (on_walk d h) (inner_of (drop k (function_at h f).blocks))

-- What is left of the walk from block k of function f on, with the loads passed so far: each function is reached once and is used, and
-- the rows that are still to be walked, and the loads, are accepted.
pub record StillAccepted (d : ℕ) (h : Hir) (f k : ℕ) (globals : List InstructionV) : Type 0 where
  pub once : Distinct (f ∷ reached_from d h f k)
  pub used : (g : ℕ) → within g (f ∷ reached_from d h f k) ≡ true → g < length h.functions
  pub own : (j : ℕ) → k ≤ j → RowsAccepted (block_rows (function_at h f).blocks j)
  pub inner : (g : ℕ) → within g (reached_from d h f k) ≡ true → (j : ℕ) → RowsAccepted (block_rows (function_at h g).blocks j)
  pub loads : (i : InstructionV) → Lists globals i → i.places ≡ []

-- an accepted call is so at its first block, and has the walk's counts left
pub record AcceptedAtFirst (h : Hir) (f : ℕ) : Type 0 where
  pub still : StillAccepted 31 h f 0 []
  pub counts : rest_counts 31 h f 0 ≡ walk_counts depth h f

-- A block.

-- the walk after block k
abbrev pub after_block : Meaning → ℕ → Hir → ℕ → ℕ → List InstructionV → Report → Walk
after_block m d h f k globals r = walk_block m (outline_jsx_impl d m) f k (start_block h globals r)

-- it is within its share; the rest is still accepted, and the function has as many blocks
pub record BlockShared (m : Meaning) (d : ℕ) (h : Hir) (f k : ℕ) (globals : List InstructionV) (r : Report) : Type 0 where
  pub share : WithinShare h (rest_counts d h f k) (after_block m d h f k globals r).hir (rest_counts d (after_block m d h f k globals r).hir f (suc k))
      (block_takes numbers (outline_jsx_impl d m) (takes numbers d m) f k (start_block h globals r)) (block_takes places (outline_jsx_impl d m) (takes places d m) f k (start_block h globals r))
  pub next : StillAccepted d (after_block m d h f k globals r).hir f (suc k) (after_block m d h f k globals r).globals
  pub len : length (function_at (after_block m d h f k globals r).hir f).blocks ≡ length (function_at h f).blocks

-- A row.

-- the functions that rows still to be passed reach
abbrev pub reached_by : ℕ → Hir → List InstructionV → List ℕ
reached_by d h todo = gathered (on_walk d h) (inner todo)

-- What is left of a block, from the last of the rows still to be passed on, with the open group's members behind them.
pub record RowsStillAccepted (d : ℕ) (w : Walk) (todo : List InstructionV) : Type 0 where
  pub once : Distinct (reached_by d w.hir todo)
  pub used : (g : ℕ) → within g (reached_by d w.hir todo) ≡ true → g < length w.hir.functions
  pub inner : (g : ℕ) → within g (reached_by d w.hir todo) ≡ true → (j : ℕ) → RowsAccepted (block_rows (function_at w.hir g).blocks j)
  pub own : RowsAccepted (backwards todo ++ w.members)
  pub elements : (i : InstructionV) → Lists w.members i → is_element i ≡ true
  pub loads : (i : InstructionV) → Lists w.globals i → i.places ≡ []

-- passing a row is within its share, and the rest is still accepted
pub record RowShared (m : Meaning) (d type : ℕ) (w : Walk) (i : InstructionV) (todo : List InstructionV) : Type 0 where
  pub share : WithinShare w.hir (ahead_counts d w.hir type w.members (i ∷ todo))
      (passed (outline_jsx_impl d m) type w i).hir (ahead_counts d (passed (outline_jsx_impl d m) type w i).hir type (passed (outline_jsx_impl d m) type w i).members todo)
      (passing numbers (takes numbers d m) type w i) (passing places (takes places d m) type w i)
  pub next : RowsStillAccepted d (passed (outline_jsx_impl d m) type w i) todo

-- at the block's start the open group closes, within what is left
abbrev pub LastShared : ℕ → ℕ → Walk → Type 0
LastShared d type w = WithinShare w.hir (ahead_counts d w.hir type w.members []) (process_and_outline_jsx type w).hir no_counts (closing numbers type w) (closing places type w)

-- how many blocks are still to be walked
abbrev pub blocks_left : ℕ → ℕ → ℕ
blocks_left blocks walked = blocks - walked

-- The loops: an accepted call may begin; each block is within its share; a block's rows may begin; each row is within its share, and
-- the closing group is; an inner function may begin when its row is passed.
pub record EveryStepWithinItsShare : Type 0 where
  pub begins : (h : Hir) (f : ℕ) → Accepts h f → WalkFormed depth h f → AcceptedAtFirst h f
  pub block : (m : Meaning) → Lawful m → (d : ℕ) (h : Hir) (f k : ℕ) (globals : List InstructionV) (r : Report) → StillAccepted d h f k globals → k < length (function_at h f).blocks → BlockShared m d h f k globals r
  pub rows : (d : ℕ) (h : Hir) (f k : ℕ) (globals : List InstructionV) (r : Report) → StillAccepted d h f k globals → k < length (function_at h f).blocks → RowsStillAccepted d (start_block h globals r) (backwards (rows_at h f k))
  pub row : (m : Meaning) → Lawful m → (d type : ℕ) (w : Walk) (i : InstructionV) (todo : List InstructionV) → RowsStillAccepted d w (i ∷ todo) → RowShared m d type w i todo
  pub enters : (d : ℕ) (w : Walk) (i : InstructionV) (todo : List InstructionV) → RowsStillAccepted (suc d) w (i ∷ todo) → is_function i ≡ true → StillAccepted d w.hir i.function 0 []
  pub last : (m : Meaning) → Lawful m → (d type : ℕ) (w : Walk) → RowsStillAccepted d w [] → LastShared d type w
