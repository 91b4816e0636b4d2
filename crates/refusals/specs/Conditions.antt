-- The refusals: what a store, a function number and the mark bytes must meet, in the order in which it is tried.
use Rattle.std.specs.Prelude.{◌≡◌, ℕ, ◌<◌, ◌≤◌, false, List, length, Some, None, Option, slice_index_or}
use Rattle.std.specs.List.{AllByRecursion}
use Rattle.rules.specs.Outline.{depth}
use Rattle.laws.specs.Allowances.{Counts, walk_counts, identifiers_allowed, instructions_allowed, numbers_allowed, places_allowed, blocks_allowed, functions_allowed, text_allowed}
use Rattle.hir.specs.Tables.{Tables}
use Rattle.hir.specs.View.{view, null_function}
use Rattle.hir.specs.WellFormed.{Room, Counted, text_limit, identifiers_limit, places_limit, instructions_limit, numbers_limit, blocks_limit, functions_limit}
use Rattle.refusals.specs.declared.Refusal.{Refusal}
use Rattle.refusals.specs.declared.Refusal.TheVariants.{UsedCount, FunctionNumber, StoreForm, InnerFunctions, RowOrder, ReadsAndWrites, ChildNamedKey, MarkBytes, SpareRows, Memory}
use Rattle.refusals.specs.Numbers.{number_of}
use Rattle.refusals.specs.Form.{InForm}
use Rattle.refusals.specs.Walked.{OnWalk, WalkSound, FunctionOrdered, WritesSound, FunctionKeyless}

-- The function asked for is used, and outlining has not added it.
pub record FunctionGiven (t : Tables) (f : ℕ) : Type 0 where
  pub used : f < t.counts.functions
  pub own : (slice_index_or t.functions f null_function).appended ≡ false

-- A mark byte for each row of the identifier table, and all of them zero.
pub record MarksReady (t : Tables) (marks : List ℕ) : Type 0 where
  pub enough : length t.identifiers ≤ length marks
  pub clear : AllByRecursion (λ m. m ≡ 0) marks

-- Each table has spare rows for what the walk counts, below its limit.
pub record Spare (t : Tables) (counts : Counts) : Type 0 where
  pub text : Room t.counts.text (text_allowed counts) (length t.text) text_limit
  pub identifiers : Room t.counts.identifiers (identifiers_allowed counts) (length t.identifiers) identifiers_limit
  pub places : Room t.counts.places (places_allowed counts) (length t.places) places_limit
  pub instructions : Room t.counts.instructions (instructions_allowed counts) (length t.instructions) instructions_limit
  pub numbers : Room t.counts.numbers (numbers_allowed counts) (length t.numbers) numbers_limit
  pub blocks : Room t.counts.blocks (blocks_allowed counts) (length t.blocks) blocks_limit
  pub functions : Room t.counts.functions (functions_allowed counts) (length t.functions) functions_limit

-- What a call must meet, or else is refused. Want of memory is no matter of what is given.
abbrev pub Meets : Tables → ℕ → List ℕ → Refusal → Type 0
Meets t f marks UsedCount = Counted t
Meets t f marks FunctionNumber = FunctionGiven t f
Meets t f marks StoreForm = InForm t
Meets t f marks InnerFunctions = WalkSound (view t) f
Meets t f marks RowOrder = OnWalk (view t) f FunctionOrdered
Meets t f marks ReadsAndWrites = OnWalk (view t) f WritesSound
Meets t f marks ChildNamedKey = OnWalk (view t) f (FunctionKeyless (view t))
Meets t f marks MarkBytes = MarksReady t marks
Meets t f marks SpareRows = Spare t (walk_counts depth (view t) f)
Meets t f marks Memory = Unit

-- The answer: none if all is met, else the first refusal that is not met.
abbrev pub FirstRefusal : Tables → ℕ → List ℕ → Option Refusal → Type 0
FirstRefusal t f marks None = (e : Refusal) → Meets t f marks e
FirstRefusal t f marks (Some e) = (Meets t f marks e → ⊥) × ((d : Refusal) → number_of d < number_of e → Meets t f marks d)
