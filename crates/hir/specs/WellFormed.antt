-- What a store has whose form was checked: every number is that of a used row, every run and every name lies within what is used, and
-- no two lists, predecessor runs or functions' blocks share a row.
use Rattle.std.specs.Prelude.{◌≡◌, ℕ, ◌+◌, ◌<◌, ◌≤◌, Bool, true, ◌||◌, ◌≢◌, ◌⊎◌, List, length, Some, None, Option, ◌==◌, slice_index_or}
use Rattle.std.specs.List.{AllByRecursion}
use Rattle.rules.specs.Kinds.{object_method_kind, function_expression_kind}
use Rattle.hir.specs.declared.rows.Name.{Name}
use Rattle.hir.specs.declared.rows.Run.{Run}
use Rattle.hir.specs.declared.rows.Counts.{Counts}
use Rattle.hir.specs.declared.rows.IdentifierName.{IdentifierName}
use Rattle.hir.specs.declared.rows.IdentifierName.TheVariants.{Named, Promoted}
use Rattle.hir.specs.declared.rows.Identifier.{Identifier}
use Rattle.hir.specs.declared.rows.Place.{Place}
use Rattle.hir.specs.declared.rows.Instruction.{Instruction}
use Rattle.hir.specs.declared.rows.BasicBlock.{BasicBlock}
use Rattle.hir.specs.declared.rows.HirFunction.{HirFunction}
use Rattle.hir.specs.Tables.{Tables}
use Rattle.hir.specs.Used.{in_run}
use Rattle.hir.specs.View.{Rows, rows}

-- how many rows of each table may be used
abbrev pub text_limit : ℕ
text_limit = 1048576

abbrev pub identifiers_limit : ℕ
identifiers_limit = 65535

abbrev pub places_limit : ℕ
places_limit = 262144

abbrev pub instructions_limit : ℕ
instructions_limit = 65535

abbrev pub numbers_limit : ℕ
numbers_limit = 262144

abbrev pub blocks_limit : ℕ
blocks_limit = 16384

abbrev pub functions_limit : ℕ
functions_limit = 1024

-- there is room for n rows more, both in the table and below the limit
pub record Room (used n size limit : ℕ) : Type 0 where
  pub in_table : used + n ≤ size
  pub in_limit : used + n ≤ limit

-- Each row by itself, under the used counts.

-- a name has bytes, all of them used
pub record NameFits (c : Counts) (n : Name) : Type 0 where
  pub some : 0 < n.len
  pub inside : n.start + n.len ≤ c.text

abbrev pub NameIfFits : Counts → Option Name → Type 0
NameIfFits c None = Unit {0}
NameIfFits c (Some n) = NameFits c n

abbrev pub IdentifierNameFits : Counts → Option IdentifierName → Type 0
IdentifierNameFits c None = Unit {0}
IdentifierNameFits c (Some (Named n)) = NameFits c n
IdentifierNameFits c (Some (Promoted n)) = NameFits c n

abbrev pub IdentifierFits : Counts → Identifier → Type 0
IdentifierFits c x = IdentifierNameFits c x.name

pub record PlaceFits (c : Counts) (p : Place) : Type 0 where
  pub name : NameIfFits c p.name
  pub identifier : p.identifier.0 < c.identifiers

-- a run of so many rows
abbrev pub RunFits : Run → ℕ → Type 0
RunFits run used = run.first + run.count ≤ used

-- the two kinds whose rows have an inner function
abbrev pub has_function : ℕ → Bool
has_function kind = kind == object_method_kind || kind == function_expression_kind

pub record InstructionFits (c : Counts) (x : Instruction) : Type 0 where
  pub result : PlaceFits c x.result
  pub name : NameIfFits c x.name
  pub function : has_function x.kind ≡ true → x.function.0 < c.functions
  pub places : RunFits x.places c.places

-- two runs share no row
abbrev pub Clear : Run → Run → Type 0
Clear a b = (a.count ≡ 0) ⊎ ((b.count ≡ 0) ⊎ ((a.first + a.count ≤ b.first) ⊎ (b.first + b.count ≤ a.first)))

-- what holds of any two elements at different positions
abbrev pub Pairwise : {A : Type 0} → (A → A → Type 0) → List A → Type 0
Pairwise {A} P xs = (i j : ℕ) (d : A) → i < length xs → j < length xs → i ≢ j → P (slice_index_or xs i d) (slice_index_or xs j d)

-- the used numbers are needed here, since a block's list and predecessors stand there
pub record BlockFits (c : Counts) (numbers : List ℕ) (b : BasicBlock) : Type 0 where
  pub places : RunFits b.places c.places
  pub instructions : RunFits b.instructions c.numbers
  pub preds : RunFits b.preds c.numbers
  pub listed : AllByRecursion (λ n. n < c.instructions) (in_run numbers b.instructions)
  pub named : AllByRecursion (λ n. n < c.blocks) (in_run numbers b.preds)
  pub once : Pairwise ◌≢◌ (in_run numbers b.instructions)
  pub own : Clear b.instructions b.preds

pub record FunctionFits (c : Counts) (f : HirFunction) : Type 0 where
  pub blocks : RunFits f.blocks c.blocks
  pub params : RunFits f.params c.places
  pub context : RunFits f.context c.places
  pub returns : PlaceFits c f.returns
  pub tag : NameIfFits c f.tag

-- Two blocks, and two functions.

-- no number stands in both lists
abbrev pub Unlike : List ℕ → List ℕ → Type 0
Unlike xs ys = (k l d : ℕ) → k < length xs → l < length ys → slice_index_or xs k d ≢ slice_index_or ys l d

-- their lists and predecessors lie apart, and no row is listed by both
pub record BlocksApart (numbers : List ℕ) (b c : BasicBlock) : Type 0 where
  pub lists : Clear b.instructions c.instructions
  pub list_preds : Clear b.instructions c.preds
  pub preds_list : Clear b.preds c.instructions
  pub preds : Clear b.preds c.preds
  pub rows : Unlike (in_run numbers b.instructions) (in_run numbers c.instructions)

abbrev pub FunctionsApart : HirFunction → HirFunction → Type 0
FunctionsApart f g = Clear f.blocks g.blocks

-- The used rows together.
pub record Sound (c : Counts) (r : Rows) : Type 0 where
  pub identifiers : AllByRecursion (IdentifierFits c) r.identifiers
  pub places : AllByRecursion (PlaceFits c) r.places
  pub instructions : AllByRecursion (InstructionFits c) r.instructions
  pub blocks : AllByRecursion (BlockFits c r.numbers) r.blocks
  pub functions : AllByRecursion (FunctionFits c) r.functions
  pub blocks_apart : Pairwise (BlocksApart r.numbers) r.blocks
  pub functions_apart : Pairwise FunctionsApart r.functions

-- no more rows are used than a table has and than the limit allows
pub record Counted (t : Tables) : Type 0 where
  pub text : Room t.counts.text 0 (length t.text) text_limit
  pub identifiers : Room t.counts.identifiers 0 (length t.identifiers) identifiers_limit
  pub places : Room t.counts.places 0 (length t.places) places_limit
  pub instructions : Room t.counts.instructions 0 (length t.instructions) instructions_limit
  pub numbers : Room t.counts.numbers 0 (length t.numbers) numbers_limit
  pub blocks : Room t.counts.blocks 0 (length t.blocks) blocks_limit
  pub functions : Room t.counts.functions 0 (length t.functions) functions_limit

pub record WellFormed (t : Tables) : Type 0 where
  pub counted : Counted t
  pub sound : Sound t.counts (rows t)

-- What reading rows and places needs of it; lists and blocks play no part.
pub record Readable (t : Tables) : Type 0 where
  pub counted : Counted t
  pub places : AllByRecursion (PlaceFits t.counts) (rows t).places
  pub instructions : AllByRecursion (InstructionFits t.counts) (rows t).instructions
