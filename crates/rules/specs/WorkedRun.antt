-- A worked run: the promise is about something.
use Rattle.std.specs.Prelude.{◌≡◌, ℕ, ◌+◌, ◌*◌, true, List, [], ◌∷◌, length, Some, None, Option}
use Rattle.rules.specs.Lists.{within}
use Rattle.rules.specs.Views.{Bytes, Hir, still_read, function_at}
use Rattle.rules.specs.Runs.{Action, Tag, builtin, component, Attribute, attribute, spread, Reading, State, run}
use Rattle.rules.specs.Drawn.{Admitted, Accepts, After, Filled}
use Rattle.rules.specs.Cases.{at, call_with, attr, child, load, single, component_element, unnamed, one_block, filled, dd, Tile, v, report, reported, swept}

-- nested elements, passed to a call, which acts, into 5, which is returned
abbrev pub passed_on : Hir
passed_on = filled (unnamed 6 0) (one_block 2 5 (
    at 1 0 (load Tile)
    ∷ at 2 1 (single dd (attr v 3 ∷ []))
    ∷ at 3 2 (component_element 0 (attr v 4 ∷ child 1 ∷ []))
    ∷ at 4 5 (call_with 2) ∷ []) ∷ [])

-- A reading in numbers, which tells elements apart by their tag, by the names and values of their attributes, and by their children.

-- a name by its length
abbrev pub of_name : Option Bytes → ℕ
of_name None = 3
of_name (Some n) = length n

-- a tag
abbrev pub of_tag : Tag ℕ → ℕ
of_tag (builtin n) = of_name n
of_tag (component v) = v

-- attributes in order
abbrev pub of_attributes : List (Attribute ℕ) → ℕ
of_attributes [] = 1
of_attributes (attribute n v ∷ ps) = of_name n + v + 7 * of_attributes ps
of_attributes (spread v ∷ ps) = v + 11 * of_attributes ps

-- values in order
abbrev pub of_list : List ℕ → ℕ
of_list [] = 2
of_list (v ∷ vs) = v + 3 * of_list vs

-- children, or none
abbrev pub of_children : Option (List ℕ) → ℕ
of_children None = 5
of_children (Some vs) = of_list vs

-- the reading
abbrev pub numbers : Reading ℕ
numbers = record {
  global = λ n d. 11 + d;
  element = λ t ps c. of_tag t + 100 * of_attributes ps + 10000 * of_children c;
  other = λ f vs done k. of_list vs + length done + k;
}

-- identifier x starts at 20 + x
abbrev pub start : ℕ → ℕ
start x = 20 + x

-- how block 0 of function 0 ends
abbrev pub ended : Hir → State ℕ
ended h = run numbers h 0 0 start

-- the value of the outer element
abbrev pub element_value : ℕ
element_value = 531083215

-- the value of the call
abbrev pub call_value : ℕ
call_value = 531083222

-- the one action: the call with that value
abbrev pub call_action : Action ℕ
call_action = record { fields = record { kind = 12; name = None; detail = 0; function = 0; names = None ∷ [] }; values = element_value ∷ [] }

-- The store is filled, its function is accepted and outlined, and the start is admitted. Both runs act once, on the same value, and end
-- with the same result; the element is still read.
pub record WorkedRun : Type 0 where
  pub filled_store : Filled passed_on
  pub accepted : Accepts passed_on 0
  pub after : After passed_on (swept passed_on)
  pub outlined : reported passed_on ≡ report 1 0 2
  pub admitted : Admitted numbers passed_on 0 0 start
  pub element_read : within 2 (still_read (function_at (swept passed_on) 0).blocks) ≡ true
  pub drawn_element : (ended passed_on).value 2 ≡ element_value
  pub drawn_actions : (ended passed_on).actions ≡ (call_action ∷ [])
  pub drawn_result : (ended passed_on).value 5 ≡ call_value
  pub outlined_element : (ended (swept passed_on)).value 2 ≡ element_value
  pub outlined_actions : (ended (swept passed_on)).actions ≡ (call_action ∷ [])
  pub outlined_result : (ended (swept passed_on)).value 5 ≡ call_value
