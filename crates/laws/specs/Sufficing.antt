-- That the allowances suffice.
use Rattle.std.specs.Prelude.{◌≡◌, ℕ, ◌+◌, ◌≤◌, true, List, [], ◌∷◌, length}
use Rattle.rules.specs.Lists.{select, within, Lists}
use Rattle.rules.specs.Views.{InstructionV, FunctionV, Hir, role_is, is_element, is_global, function_rows, function_at}
use Rattle.rules.specs.Eliminations.{Meaning, Lawful}
use Rattle.rules.specs.Outline.{outline_jsx, depth}
use Rattle.rules.specs.Drawn.{on_walk, Accepts}
use Rattle.laws.specs.Allowances.{walk_counts, identifiers_allowed, instructions_allowed, numbers_allowed, places_allowed, blocks_allowed, functions_allowed}
use Rattle.laws.specs.Taking.{takes, places, numbers}

-- The form of rows that the counts rest on.

-- an element has one tag place at most, and no places but tag, attributes, spreads and children; a load has none
pub record Formed (i : InstructionV) : Type 0 where
  pub tag : is_element i ≡ true → length (select (role_is 1) i.places) ≤ 1
  pub roles : is_element i ≡ true → length i.places ≤ length (select (role_is 1) i.places) + length (select (role_is 2) i.places) + length (select (role_is 3) i.places) + length (select (role_is 4) i.places)
  pub load : is_global i ≡ true → i.places ≡ []

-- every row that a function on the walk lists has that form
abbrev pub WalkFormed : ℕ → Hir → ℕ → Type 0
WalkFormed d h f = (g : ℕ) → within g (on_walk d h f) ≡ true → (i : InstructionV) → Lists (function_rows (function_at h g)) i → Formed i

-- how many blocks the functions have
abbrev pub blocks_in : List FunctionV → ℕ
blocks_in [] = 0
blocks_in (f ∷ fs) = length f.blocks + blocks_in fs

-- That an allowance suffices is said of every accepted call, whatever the lawful elimination: what the outline takes of the table is
-- within the allowance of the walk's counts.
abbrev pub OfEveryWalk : (Meaning → Hir → ℕ → Type 0) → Type 0
OfEveryWalk P = (m : Meaning) → Lawful m → (h : Hir) (f : ℕ) → Accepts h f → WalkFormed depth h f → P m h f

-- the tables that the view shows, by how long they are after and before
abbrev pub IdentifiersSuffice : Type 0
IdentifiersSuffice = OfEveryWalk (λ m h f. length (outline_jsx m h f).hir.identifiers ≤ length h.identifiers + identifiers_allowed (walk_counts depth h f))

abbrev pub InstructionsSuffice : Type 0
InstructionsSuffice = OfEveryWalk (λ m h f. (outline_jsx m h f).hir.used_rows ≤ h.used_rows + instructions_allowed (walk_counts depth h f))

abbrev pub BlocksSuffice : Type 0
BlocksSuffice = OfEveryWalk (λ m h f. blocks_in (outline_jsx m h f).hir.functions ≤ blocks_in h.functions + blocks_allowed (walk_counts depth h f))

abbrev pub FunctionsSuffice : Type 0
FunctionsSuffice = OfEveryWalk (λ m h f. length (outline_jsx m h f).hir.functions ≤ length h.functions + functions_allowed (walk_counts depth h f))

-- list numbers and places, by what the walk takes
abbrev pub NumbersSuffice : Type 0
NumbersSuffice = OfEveryWalk (λ m h f. takes numbers depth m h f ≤ numbers_allowed (walk_counts depth h f))

abbrev pub PlacesSuffice : Type 0
PlacesSuffice = OfEveryWalk (λ m h f. takes places depth m h f ≤ places_allowed (walk_counts depth h f))
