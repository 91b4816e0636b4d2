-- The used rows of a store, and what they say once every number is followed and every name is spelt out.
use Rattle.std.specs.Prelude.{ℕ, ◌+◌, Bool, false, ◌&&◌, ◌||◌, List, map, length, take, Some, None, Option, ◌==◌, slice_index_or}
use Rattle.rules.specs.Lists.{any}
use Rattle.rules.specs.Kinds.{load_global_kind, store_global_kind}
use Rattle.rules.specs.Views.{Bytes, PlaceV, InstructionV, BlockV, FunctionV, NameV, absent, named, promoted, IdentifierV, Hir}
use Rattle.rules.specs.Names.{same_name}
use Rattle.hir.specs.declared.rows.Name.{Name}
use Rattle.hir.specs.declared.rows.Run.{Run}
use Rattle.hir.specs.declared.rows.Counts.{Counts}
use Rattle.hir.specs.declared.rows.IdentifierName.{IdentifierName}
use Rattle.hir.specs.declared.rows.IdentifierName.TheVariants.{Named, Promoted}
use Rattle.hir.specs.declared.rows.Identifier.{Identifier}
use Rattle.hir.specs.declared.rows.Place.{Place}
use Rattle.hir.specs.declared.rows.Instruction.{Instruction}
use Rattle.hir.specs.declared.rows.BasicBlock.{BasicBlock}
use Rattle.hir.specs.declared.rows.HirFunction.{HirFunction}
use Rattle.hir.specs.Tables.{Tables}
use Rattle.hir.specs.Used.{in_run}

-- The used rows alone: what the view is made of. A row more is a list longer by one.
pub record Rows : Type 0 where
  pub text : Bytes
  pub identifiers : List Identifier
  pub places : List Place
  pub instructions : List Instruction
  pub numbers : List ℕ
  pub blocks : List BasicBlock
  pub functions : List HirFunction
  pub counter : ℕ
  pub mark : ℕ

abbrev pub rows : Tables → Rows
rows t = record {
  text = take t.counts.text t.text;
  identifiers = take t.counts.identifiers t.identifiers;
  places = take t.counts.places t.places;
  instructions = take t.counts.instructions t.instructions;
  numbers = take t.counts.numbers t.numbers;
  blocks = take t.counts.blocks t.blocks;
  functions = take t.counts.functions t.functions;
  counter = t.counts.tag_counter;
  mark = t.counts.tag_mark;
}

-- how many there are of each
abbrev pub sizes : Rows → Counts
sizes r = record { text = length r.text; identifiers = length r.identifiers; places = length r.places; instructions = length r.instructions; numbers = length r.numbers; blocks = length r.blocks; functions = length r.functions; tag_counter = r.counter; tag_mark = r.mark }

-- The used rows, with those of one table changed.

abbrev pub put_text : Rows → List ℕ → Rows
put_text r l = record { text = l; identifiers = r.identifiers; places = r.places; instructions = r.instructions; numbers = r.numbers; blocks = r.blocks; functions = r.functions; counter = r.counter; mark = r.mark }

abbrev pub put_identifiers : Rows → List Identifier → Rows
put_identifiers r l = record { text = r.text; identifiers = l; places = r.places; instructions = r.instructions; numbers = r.numbers; blocks = r.blocks; functions = r.functions; counter = r.counter; mark = r.mark }

abbrev pub put_places : Rows → List Place → Rows
put_places r l = record { text = r.text; identifiers = r.identifiers; places = l; instructions = r.instructions; numbers = r.numbers; blocks = r.blocks; functions = r.functions; counter = r.counter; mark = r.mark }

abbrev pub put_instructions : Rows → List Instruction → Rows
put_instructions r l = record { text = r.text; identifiers = r.identifiers; places = r.places; instructions = l; numbers = r.numbers; blocks = r.blocks; functions = r.functions; counter = r.counter; mark = r.mark }

abbrev pub put_numbers : Rows → List ℕ → Rows
put_numbers r l = record { text = r.text; identifiers = r.identifiers; places = r.places; instructions = r.instructions; numbers = l; blocks = r.blocks; functions = r.functions; counter = r.counter; mark = r.mark }

abbrev pub put_blocks : Rows → List BasicBlock → Rows
put_blocks r l = record { text = r.text; identifiers = r.identifiers; places = r.places; instructions = r.instructions; numbers = r.numbers; blocks = l; functions = r.functions; counter = r.counter; mark = r.mark }

abbrev pub put_functions : Rows → List HirFunction → Rows
put_functions r l = record { text = r.text; identifiers = r.identifiers; places = r.places; instructions = r.instructions; numbers = r.numbers; blocks = r.blocks; functions = l; counter = r.counter; mark = r.mark }

-- Names and places: the text is all that they need.

abbrev pub spelt : Bytes → Name → Bytes
spelt text n = in_run text (record { first = n.start; count = n.len })

abbrev pub spelt_if : Bytes → Option Name → Option Bytes
spelt_if text None = None
spelt_if text (Some n) = Some (spelt text n)

abbrev pub name_view : Bytes → Option IdentifierName → NameV
name_view text None = absent
name_view text (Some (Named n)) = named (spelt text n)
name_view text (Some (Promoted n)) = promoted (spelt text n)

abbrev pub identifier_view : Bytes → Identifier → IdentifierV
identifier_view text x = record { declaration = x.declaration; name = name_view text x.name }

abbrev pub place_view : Bytes → Place → PlaceV
place_view text p = record { role = p.role; name = spelt_if text p.name; identifier = p.identifier.0; effect = p.effect; reactive = p.reactive; span = p.span }

abbrev pub places_view : Rows → Run → List PlaceV
places_view r run = map (place_view r.text) (in_run r.places run)

-- Rows, blocks and functions.

abbrev pub instruction_view : Rows → Instruction → InstructionV
instruction_view r x = record { order = x.order; kind = x.kind; result = place_view r.text x.result; name = spelt_if r.text x.name; detail = x.detail; function = x.function.0; places = places_view r x.places; span = x.span; opening = x.opening; closing = x.closing; effects = x.effects }

-- what is read past the end of a table: every number 0, every option none
abbrev pub null_identifier : Identifier
null_identifier = record { declaration = 0; name = None }

abbrev pub null_place : Place
null_place = record { role = 0; name = None; identifier = record { 0 = 0 }; effect = 0; reactive = false; span = 0 }

abbrev pub null_run : Run
null_run = record { first = 0; count = 0 }

abbrev pub null_instruction : Instruction
null_instruction = record { order = 0; kind = 0; result = null_place; name = None; detail = 0; function = record { 0 = 0 }; places = null_run; span = 0; opening = 0; closing = 0; effects = 0 }

abbrev pub null_block : BasicBlock
null_block = record { kind = 0; terminal = 0; detail = 0; places = null_run; instructions = null_run; preds = null_run }

abbrev pub null_function : HirFunction
null_function = record { fn_type = 0; blocks = null_run; params = null_run; context = null_run; returns = null_place; tag = None; appended = false }

-- the rows of these numbers
abbrev pub instruction_at : Rows → ℕ → InstructionV
instruction_at r n = instruction_view r (slice_index_or r.instructions n null_instruction)

abbrev pub instructions_at : Rows → List ℕ → List InstructionV
instructions_at r ns = map (instruction_at r) ns

abbrev pub block_view : Rows → BasicBlock → BlockV
block_view r b = record { kind = b.kind; terminal = b.terminal; detail = b.detail; places = places_view r b.places; rows = instructions_at r (in_run r.numbers b.instructions); preds = in_run r.numbers b.preds }

abbrev pub function_view : Rows → HirFunction → FunctionV
function_view r f = record { type = f.fn_type; blocks = map (block_view r) (in_run r.blocks f.blocks); params = places_view r f.params; context = places_view r f.context; returns = place_view r.text f.returns; tag = spelt_if r.text f.tag; appended = f.appended }

-- does the row load or store a global of that name?
abbrev pub bears_name : InstructionV → Bytes → Bool
bears_name x n = (x.kind == load_global_kind || x.kind == store_global_kind) && same_name (Some n) x.name

abbrev pub seen : Rows → Hir
seen r = record {
  identifiers = map (identifier_view r.text) r.identifiers;
  functions = map (function_view r) r.functions;
  bears = λ n. any (λ x. bears_name (instruction_view r x) n) r.instructions;
  used_rows = length r.instructions;
  counter = r.counter;
  mark = r.mark;
  text = r.text;
}

-- what a store says
abbrev pub view : Tables → Hir
view t = seen (rows t)

-- One row more is used, which may bear a name.
abbrev pub with_row_taken : Hir → InstructionV → Hir
with_row_taken h x = record { identifiers = h.identifiers; functions = h.functions; bears = λ n. h.bears n || bears_name x n; used_rows = h.used_rows + 1; counter = h.counter; mark = h.mark; text = h.text }
