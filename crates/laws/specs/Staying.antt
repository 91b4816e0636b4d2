-- What an outline leaves as it was.
use Rattle.std.specs.Prelude.{◌≡◌, ℕ, ◌<◌, ◌≤◌, Bool, true, false, not, ◌⊎◌, List, [], ◌∷◌, ◌++◌, length, nat_lt, slice_index_or}
use Rattle.rules.specs.Lists.{within}
use Rattle.rules.specs.Views.{Bytes, InstructionV, BlockV, FunctionV, absent, promoted, IdentifierV, Hir, with_rows, with_blocks, function_at}
use Rattle.rules.specs.Names.{temporary}
use Rattle.rules.specs.Props.{no_identifier}
use Rattle.rules.specs.Emit.{process_jsx_group}
use Rattle.rules.specs.Eliminations.{Meaning, Lawful}
use Rattle.rules.specs.Outline.{Walk, walk_back, walk_blocks, outline_jsx_impl, outline_jsx, depth}
use Rattle.rules.specs.Drawn.{Accepts, on_walk}

-- The blocks are as they were but for their lists: kinds, terminals, details, terminal places and predecessors stay.
abbrev pub SameButLists : List BlockV → List BlockV → Type 0
SameButLists [] [] = Unit
SameButLists [] (c ∷ cs) = ⊥
SameButLists (b ∷ bs) [] = ⊥
SameButLists (b ∷ bs) (c ∷ cs) = (c ≡ with_rows b c.rows) × SameButLists bs cs

-- The function is as it was but for the lists of its blocks.
abbrev pub SameFunction : FunctionV → FunctionV → Type 0
SameFunction f g = (g ≡ with_blocks f g.blocks) × SameButLists f.blocks g.blocks

-- the identifier of a number
abbrev pub identifier_at : Hir → ℕ → IdentifierV
identifier_at h x = slice_index_or h.identifiers x no_identifier

-- An identifier keeps its declaration number, and its name unless it had none and was promoted.
pub record SameIdentifier (i j : IdentifierV) : Type 0 where
  pub declaration : j.declaration ≡ i.declaration
  pub name : (j.name ≡ i.name) ⊎ ((i.name ≡ absent) × (j.name ≡ promoted (temporary i.declaration)))

-- a number below the count of what was used before
abbrev pub is_old : ℕ → ℕ → Bool
is_old n used = nat_lt n used

-- a function that the walk does not come to
abbrev pub stays_whole : Bool → Bool
stays_whole on_walk = not on_walk

-- What every outline keeps, whatever the elimination: what was used is still used, and means what it meant.
pub record Onward (h h' : Hir) : Type 0 where
  -- identifiers are only added, each with its own number as its declaration number
  pub identifiers : length h.identifiers ≤ length h'.identifiers
  pub identifier : (x : ℕ) → x < length h.identifiers → SameIdentifier (identifier_at h x) (identifier_at h' x)
  pub fresh : (x : ℕ) → length h.identifiers ≤ x → x < length h'.identifiers → (identifier_at h' x).declaration ≡ x
  -- functions are only added, and change only in their lists
  pub functions : length h.functions ≤ length h'.functions
  pub function : (f : ℕ) → f < length h.functions → SameFunction (function_at h f) (function_at h' f)
  -- text is only added
  pub text : (made : Bytes) × (h'.text ≡ h.text ++ made)
  -- rows are only added, and bear what they bore
  pub used_rows : h.used_rows ≤ h'.used_rows
  pub bears : (n : Bytes) → h.bears n ≡ true → h'.bears n ≡ true
  -- the tag counter and the tag mark do not fall
  pub counter : h.counter ≤ h'.counter
  pub mark : h.mark ≤ h'.mark

-- of every outline, accepted or not
abbrev pub EveryOutlineGoesOnward : Type 0
EveryOutlineGoesOnward = (m : Meaning) (h : Hir) (f : ℕ) → Onward h (outline_jsx m h f).hir

-- So does every part of it: a group, the rows still to be passed of a block, the blocks still to be walked. What is used at any moment
-- is within what is used in the end.
pub record EveryStepGoesOnward : Type 0 where
  pub group : (type : ℕ) (globals members : List InstructionV) (h : Hir) → Onward h (process_jsx_group type globals members h).hir
  pub rows : (d : ℕ) (m : Meaning) (type : ℕ) (w : Walk) (rows : List InstructionV) → Onward w.hir (walk_back (outline_jsx_impl d m) type w rows).hir
  pub blocks : (n d : ℕ) (m : Meaning) (f k : ℕ) (w : Walk) → Onward w.hir (walk_blocks n m (outline_jsx_impl d m) f k w).hir

-- Under a lawful elimination, a function that an accepted call does not walk is as it was; all that were appended earlier are such.
pub record OutsideStays (h : Hir) (f : ℕ) (h' : Hir) : Type 0 where
  pub outside : (g : ℕ) → g < length h.functions → within g (on_walk depth h f) ≡ false → function_at h' g ≡ function_at h g
  pub appended : (g : ℕ) → g < length h.functions → (function_at h g).appended ≡ true → function_at h' g ≡ function_at h g

abbrev pub WhatIsOutsideStays : Type 0
WhatIsOutsideStays = (m : Meaning) → Lawful m → (h : Hir) (f : ℕ) → Accepts h f → OutsideStays h f (outline_jsx m h f).hir
