-- The form of a store: what is asked of each used row by itself, and of rows compared with one another.
use Rattle.std.specs.Prelude.{◌≡◌, ℕ, ◌-◌, ◌<◌, ◌≤◌, true, false, ◌≢◌, List, length, is_some, Option, slice_index_or}
use Rattle.std.specs.List.{AllByRecursion}
use Rattle.rules.specs.Kinds.{destructure_kind, jsx_kind, load_global_kind}
use Rattle.hir.specs.declared.rows.Counts.{Counts}
use Rattle.hir.specs.declared.rows.Name.{Name}
use Rattle.hir.specs.declared.rows.Run.{Run}
use Rattle.hir.specs.declared.rows.Place.{Place}
use Rattle.hir.specs.declared.rows.Instruction.{Instruction}
use Rattle.hir.specs.declared.rows.BasicBlock.{BasicBlock}
use Rattle.hir.specs.declared.rows.HirFunction.{HirFunction}
use Rattle.hir.specs.Tables.{Tables}
use Rattle.hir.specs.Used.{in_run}
use Rattle.hir.specs.View.{Rows, rows, null_place}
use Rattle.hir.specs.WellFormed.{NameIfFits, IdentifierFits, PlaceFits, RunFits, Clear, Pairwise, BlocksApart, FunctionsApart, has_function}

-- how high the tag counter and the tag mark may be
abbrev pub tag_limit : ℕ
tag_limit = 1000000

-- A place: role and effect are in range, an attribute has a name, and what it names is there.
pub record PlaceFormed (c : Counts) (p : Place) : Type 0 where
  pub role : p.role ≤ 5
  pub effect : p.effect ≤ 7
  pub attribute : p.role ≡ 2 → is_some p.name ≡ true
  pub fits : PlaceFits c p

-- a place of this role
pub record PlaceAs (wanted : ℕ) (c : Counts) (p : Place) : Type 0 where
  pub role : p.role ≡ wanted
  pub formed : PlaceFormed c p

-- a run of used places, all of this role
pub record RunOf (wanted : ℕ) (c : Counts) (ps : List Place) (run : Run) : Type 0 where
  pub fits : RunFits run c.places
  pub roles : AllByRecursion (λ (p : Place). p.role ≡ wanted) (in_run ps run)

-- the role of a place by its position
abbrev pub role_at : List Place → ℕ → ℕ
role_at ps k = (slice_index_or ps k null_place).role

-- The place at a position of an element: a tag only at the start, a child only with a child list, and after a child only children.
pub record RoleFormed (detail : ℕ) (ps : List Place) (k : ℕ) : Type 0 where
  pub low : 1 ≤ role_at ps k
  pub high : role_at ps k ≤ 4
  pub tag_first : role_at ps k ≡ 1 → k ≡ 0
  pub child_list : role_at ps k ≡ 4 → detail ≡ 1
  pub children_last : 0 < k → role_at ps (k - 1) ≡ 4 → role_at ps k ≡ 4

-- where no place is the tag, the row's name is
abbrev pub TagGiven : Option Name → List Place → Type 0
TagGiven name ps = role_at ps 0 ≢ 1 → is_some name ≡ true

-- An element: tag, attributes and spreads, children and nothing else, in this order.
pub record ElementFormed (x : Instruction) (ps : List Place) : Type 0 where
  pub detail : x.detail ≤ 1
  pub tag : TagGiven x.name ps
  pub places : (k : ℕ) → k < length ps → RoleFormed x.detail ps k

-- A load of a global: it has a name, and no places.
pub record LoadFormed (x : Instruction) (ps : List Place) : Type 0 where
  pub places : length ps ≡ 0
  pub name : is_some x.name ≡ true

-- A Destructure: one place is read, the others are written; in an object pattern these have a name.
pub record DestructureFormed (detail : ℕ) (ps : List Place) : Type 0 where
  pub low : detail < 16
  pub read : (k : ℕ) × (k < length ps) × (role_at ps k ≤ 4)
  pub alone : (j k : ℕ) → j < length ps → k < length ps → role_at ps j ≤ 4 → role_at ps k ≤ 4 → j ≡ k
  pub keys : 8 ≤ detail → (k : ℕ) → k < length ps → 4 < role_at ps k → is_some (slice_index_or ps k null_place).name ≡ true

-- the three kinds that have a form
pub record KindFormed (x : Instruction) (ps : List Place) : Type 0 where
  pub element : x.kind ≡ jsx_kind → ElementFormed x ps
  pub load : x.kind ≡ load_global_kind → LoadFormed x ps
  pub destructure : x.kind ≡ destructure_kind → DestructureFormed x.detail ps

-- a function number where the kind has one, and only there
pub record InnerFormed (c : Counts) (kind function : ℕ) : Type 0 where
  pub inner : has_function kind ≡ true → function < c.functions
  pub none : has_function kind ≡ false → function ≡ 0

-- A row, with the used places.
pub record InstructionFormed (c : Counts) (ps : List Place) (x : Instruction) : Type 0 where
  pub kind : x.kind ≤ 42
  pub result : PlaceAs 5 c x.result
  pub name : NameIfFits c x.name
  pub inner : InnerFormed c x.kind x.function.0
  pub places : RunFits x.places c.places
  pub form : KindFormed x (in_run ps x.places)

-- A block: its kinds are in range, its runs fit, and its terminal's places are read.
pub record BlockFormed (c : Counts) (ps : List Place) (b : BasicBlock) : Type 0 where
  pub kind : b.kind ≤ 4
  pub terminal_low : 1 ≤ b.terminal
  pub terminal_high : b.terminal ≤ 21
  pub places : RunOf 0 c ps b.places
  pub instructions : RunFits b.instructions c.numbers
  pub preds : RunFits b.preds c.numbers

-- A function: its type is in range, its runs fit, parameters are written and the context is read.
pub record FunctionFormed (c : Counts) (ps : List Place) (f : HirFunction) : Type 0 where
  pub type : f.fn_type ≤ 2
  pub blocks : RunFits f.blocks c.blocks
  pub params : RunOf 5 c ps f.params
  pub context : RunOf 0 c ps f.context
  pub returns : PlaceAs 5 c f.returns
  pub tag : NameIfFits c f.tag

-- Each used row by itself.
pub record RowsFormed (c : Counts) (r : Rows) : Type 0 where
  pub counter : c.tag_counter ≤ tag_limit
  pub mark : c.tag_mark ≤ tag_limit
  pub identifiers : AllByRecursion (IdentifierFits c) r.identifiers
  pub places : AllByRecursion (PlaceFormed c) r.places
  pub instructions : AllByRecursion (InstructionFormed c r.places) r.instructions
  pub blocks : AllByRecursion (BlockFormed c r.places) r.blocks
  pub functions : AllByRecursion (FunctionFormed c r.places) r.functions

-- Rows compared with one another: lists name used rows and predecessors used blocks; no row is listed twice; no two lists or predecessor
-- runs share a list number, and no two functions a block.
pub record RowsApart (c : Counts) (r : Rows) : Type 0 where
  pub listed : AllByRecursion (λ (b : BasicBlock). AllByRecursion (λ n. n < c.instructions) (in_run r.numbers b.instructions)) r.blocks
  pub preds : AllByRecursion (λ (b : BasicBlock). AllByRecursion (λ n. n < c.blocks) (in_run r.numbers b.preds)) r.blocks
  pub once : AllByRecursion (λ (b : BasicBlock). Pairwise ◌≢◌ (in_run r.numbers b.instructions)) r.blocks
  pub own : AllByRecursion (λ (b : BasicBlock). Clear b.instructions b.preds) r.blocks
  pub blocks : Pairwise (BlocksApart r.numbers) r.blocks
  pub functions : Pairwise FunctionsApart r.functions

pub record InForm (t : Tables) : Type 0 where
  pub formed : RowsFormed t.counts (rows t)
  pub apart : RowsApart t.counts (rows t)
