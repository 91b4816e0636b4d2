-- What a store holds, as plain lists and counts, and what each write makes of it.
use Rattle.std.specs.Prelude.{◌≡◌, ℕ, ◌+◌, List, length, slice_set}
use Rattle.std.proofs.Math.Seq.{paste}
use Rattle.hir.specs.declared.rows.Store.{Store}
use Rattle.hir.specs.declared.rows.Counts.{Counts}
use Rattle.hir.specs.declared.rows.Identifier.{Identifier}
use Rattle.hir.specs.declared.rows.Place.{Place}
use Rattle.hir.specs.declared.rows.Instruction.{Instruction}
use Rattle.hir.specs.declared.rows.BasicBlock.{BasicBlock}
use Rattle.hir.specs.declared.rows.HirFunction.{HirFunction}

-- the counts and the seven tables, used rows and spare ones
pub record Tables : Type 0 where
  pub counts : Counts
  pub text : List ℕ
  pub identifiers : List Identifier
  pub places : List Place
  pub instructions : List Instruction
  pub numbers : List ℕ
  pub blocks : List BasicBlock
  pub functions : List HirFunction

abbrev pub tables : Store → Tables
tables s = record { counts = s.counts; text = s.text.now; identifiers = s.identifiers.now; places = s.places.now; instructions = s.instructions.now; numbers = s.numbers.now; blocks = s.blocks.now; functions = s.functions.now }

-- Counts, with n more rows of one table used.

abbrev pub more_text : Counts → ℕ → Counts
more_text c n = record { text = c.text + n; identifiers = c.identifiers; places = c.places; instructions = c.instructions; numbers = c.numbers; blocks = c.blocks; functions = c.functions; tag_counter = c.tag_counter; tag_mark = c.tag_mark }

abbrev pub more_identifiers : Counts → ℕ → Counts
more_identifiers c n = record { text = c.text; identifiers = c.identifiers + n; places = c.places; instructions = c.instructions; numbers = c.numbers; blocks = c.blocks; functions = c.functions; tag_counter = c.tag_counter; tag_mark = c.tag_mark }

abbrev pub more_places : Counts → ℕ → Counts
more_places c n = record { text = c.text; identifiers = c.identifiers; places = c.places + n; instructions = c.instructions; numbers = c.numbers; blocks = c.blocks; functions = c.functions; tag_counter = c.tag_counter; tag_mark = c.tag_mark }

abbrev pub more_instructions : Counts → ℕ → Counts
more_instructions c n = record { text = c.text; identifiers = c.identifiers; places = c.places; instructions = c.instructions + n; numbers = c.numbers; blocks = c.blocks; functions = c.functions; tag_counter = c.tag_counter; tag_mark = c.tag_mark }

abbrev pub more_numbers : Counts → ℕ → Counts
more_numbers c n = record { text = c.text; identifiers = c.identifiers; places = c.places; instructions = c.instructions; numbers = c.numbers + n; blocks = c.blocks; functions = c.functions; tag_counter = c.tag_counter; tag_mark = c.tag_mark }

abbrev pub more_blocks : Counts → ℕ → Counts
more_blocks c n = record { text = c.text; identifiers = c.identifiers; places = c.places; instructions = c.instructions; numbers = c.numbers; blocks = c.blocks + n; functions = c.functions; tag_counter = c.tag_counter; tag_mark = c.tag_mark }

abbrev pub more_functions : Counts → ℕ → Counts
more_functions c n = record { text = c.text; identifiers = c.identifiers; places = c.places; instructions = c.instructions; numbers = c.numbers; blocks = c.blocks; functions = c.functions + n; tag_counter = c.tag_counter; tag_mark = c.tag_mark }

-- one tag more is taken, and this is its number
abbrev pub tag_taken : Counts → ℕ → Counts
tag_taken c number = record { text = c.text; identifiers = c.identifiers; places = c.places; instructions = c.instructions; numbers = c.numbers; blocks = c.blocks; functions = c.functions; tag_counter = c.tag_counter + 1; tag_mark = number }

-- Tables with these counts and one table changed; the six others stay byte for byte.

abbrev pub hold_text : Tables → Counts → List ℕ → Tables
hold_text t c l = record { counts = c; text = l; identifiers = t.identifiers; places = t.places; instructions = t.instructions; numbers = t.numbers; blocks = t.blocks; functions = t.functions }

abbrev pub hold_identifiers : Tables → Counts → List Identifier → Tables
hold_identifiers t c l = record { counts = c; text = t.text; identifiers = l; places = t.places; instructions = t.instructions; numbers = t.numbers; blocks = t.blocks; functions = t.functions }

abbrev pub hold_places : Tables → Counts → List Place → Tables
hold_places t c l = record { counts = c; text = t.text; identifiers = t.identifiers; places = l; instructions = t.instructions; numbers = t.numbers; blocks = t.blocks; functions = t.functions }

abbrev pub hold_instructions : Tables → Counts → List Instruction → Tables
hold_instructions t c l = record { counts = c; text = t.text; identifiers = t.identifiers; places = t.places; instructions = l; numbers = t.numbers; blocks = t.blocks; functions = t.functions }

abbrev pub hold_numbers : Tables → Counts → List ℕ → Tables
hold_numbers t c l = record { counts = c; text = t.text; identifiers = t.identifiers; places = t.places; instructions = t.instructions; numbers = l; blocks = t.blocks; functions = t.functions }

abbrev pub hold_blocks : Tables → Counts → List BasicBlock → Tables
hold_blocks t c l = record { counts = c; text = t.text; identifiers = t.identifiers; places = t.places; instructions = t.instructions; numbers = t.numbers; blocks = l; functions = t.functions }

abbrev pub hold_functions : Tables → Counts → List HirFunction → Tables
hold_functions t c l = record { counts = c; text = t.text; identifiers = t.identifiers; places = t.places; instructions = t.instructions; numbers = t.numbers; blocks = t.blocks; functions = l }

-- A row more: it stands where the spare rows began.

abbrev pub with_identifier : Tables → Identifier → Tables
with_identifier t x = hold_identifiers t (more_identifiers t.counts 1) (slice_set t.identifiers t.counts.identifiers x)

abbrev pub with_instruction : Tables → Instruction → Tables
with_instruction t x = hold_instructions t (more_instructions t.counts 1) (slice_set t.instructions t.counts.instructions x)

abbrev pub with_block : Tables → BasicBlock → Tables
with_block t x = hold_blocks t (more_blocks t.counts 1) (slice_set t.blocks t.counts.blocks x)

abbrev pub with_function : Tables → HirFunction → Tables
with_function t x = hold_functions t (more_functions t.counts 1) (slice_set t.functions t.counts.functions x)

-- Several rows more.

abbrev pub with_text : Tables → List ℕ → Tables
with_text t xs = hold_text t (more_text t.counts (length xs)) (paste t.text t.counts.text xs (length xs))

abbrev pub with_places : Tables → List Place → Tables
with_places t xs = hold_places t (more_places t.counts (length xs)) (paste t.places t.counts.places xs (length xs))

abbrev pub with_numbers : Tables → List ℕ → Tables
with_numbers t xs = hold_numbers t (more_numbers t.counts (length xs)) (paste t.numbers t.counts.numbers xs (length xs))

-- A used row written over.

abbrev pub over_identifier : Tables → ℕ → Identifier → Tables
over_identifier t n x = hold_identifiers t t.counts (slice_set t.identifiers n x)

abbrev pub over_block : Tables → ℕ → BasicBlock → Tables
over_block t n x = hold_blocks t t.counts (slice_set t.blocks n x)

-- a tag more, of this number
abbrev pub with_tag : Tables → ℕ → Tables
with_tag t number = hold_text t (tag_taken t.counts number) t.text

-- The same slices are lent, as long as they were.
pub record Held (s t : Store) : Type 0 where
  pub text : s.text.ghost_name ≡ t.text.ghost_name
  pub identifiers : s.identifiers.ghost_name ≡ t.identifiers.ghost_name
  pub places : s.places.ghost_name ≡ t.places.ghost_name
  pub instructions : s.instructions.ghost_name ≡ t.instructions.ghost_name
  pub numbers : s.numbers.ghost_name ≡ t.numbers.ghost_name
  pub blocks : s.blocks.ghost_name ≡ t.blocks.ghost_name
  pub functions : s.functions.ghost_name ≡ t.functions.ghost_name
  pub text_length : length s.text.now ≡ length t.text.now
  pub identifiers_length : length s.identifiers.now ≡ length t.identifiers.now
  pub places_length : length s.places.now ≡ length t.places.now
  pub instructions_length : length s.instructions.now ≡ length t.instructions.now
  pub numbers_length : length s.numbers.now ≡ length t.numbers.now
  pub blocks_length : length s.blocks.now ≡ length t.blocks.now
  pub functions_length : length s.functions.now ≡ length t.functions.now
