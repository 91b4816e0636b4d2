-- A group, by the numbers of its rows; that there is room for what comes of it, and what it then has taken.
use Rattle.std.specs.Prelude.{◌≡◌, ℕ, ◌+◌, ◌^◌, ◌<◌, ◌≤◌, true, List, [], length}
use Rattle.std.specs.List.{AllByRecursion}
use Rattle.rules.specs.Views.{InstructionV, is_element}
use Rattle.rules.specs.Emit.{Outcome, process_jsx_group}
use Rattle.laws.specs.Allowances.{rows_counts}
use Rattle.laws.specs.Sufficing.{Formed}
use Rattle.laws.specs.Taking.{group_places, group_numbers}
use Rattle.hir.specs.Tables.{Tables}
use Rattle.hir.specs.View.{rows, view, instructions_at}
use Rattle.hir.specs.WellFormed.{Room, text_limit, identifiers_limit, places_limit, instructions_limit, numbers_limit, blocks_limit, functions_limit}

-- the most props of a group
abbrev pub props_limit : ℕ
props_limit = 65535

-- The members of a group, in block order, and the loads passed so far, the latest first: used rows; members are elements of their form,
-- with no more props than the limit, and loads have no places.
pub record GroupGiven (t : Tables) (globals members : List ℕ) : Type 0 where
  pub globals_used : AllByRecursion (λ n. n < t.counts.instructions) globals
  pub members_used : AllByRecursion (λ n. n < t.counts.instructions) members
  pub elements : AllByRecursion (λ (i : InstructionV). is_element i ≡ true) (instructions_at (rows t) members)
  pub formed : AllByRecursion Formed (instructions_at (rows t) members)
  pub loads : AllByRecursion (λ (i : InstructionV). i.places ≡ []) (instructions_at (rows t) globals)
  pub few : (rows_counts (instructions_at (rows t) members)).attributes + (rows_counts (instructions_at (rows t) members)).children ≤ props_limit

-- what becomes of the group, by the rules
abbrev pub group_outcome : Tables → ℕ → List ℕ → List ℕ → Outcome
group_outcome t type globals members = process_jsx_group type (instructions_at (rows t) globals) (instructions_at (rows t) members) (view t)

-- Each table has room for it, and the tag's numbers fit their width.
pub record OutcomeFits (t : Tables) (o : Outcome) : Type 0 where
  pub text : Room (length o.hir.text) 0 (length t.text) text_limit
  pub identifiers : Room (length o.hir.identifiers) 0 (length t.identifiers) identifiers_limit
  pub instructions : Room o.hir.used_rows 0 (length t.instructions) instructions_limit
  pub functions : Room (length o.hir.functions) 0 (length t.functions) functions_limit
  pub blocks : Room t.counts.blocks o.report.functions (length t.blocks) blocks_limit
  pub places : Room t.counts.places (group_places (view t) o) (length t.places) places_limit
  pub numbers : Room t.counts.numbers (group_numbers (view t) o) (length t.numbers) numbers_limit
  pub mark : o.hir.mark < 2 ^ 31
  pub counter : o.hir.counter < 2 ^ 31

-- what it takes of the tables that the view does not count
pub record Taken (t u : Tables) (o : Outcome) : Type 0 where
  pub places : u.counts.places ≡ t.counts.places + group_places (view t) o
  pub numbers : u.counts.numbers ≡ t.counts.numbers + group_numbers (view t) o
  pub blocks : u.counts.blocks ≡ t.counts.blocks + o.report.functions
