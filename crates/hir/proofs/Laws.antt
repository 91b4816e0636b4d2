-- The view after each append, and that the store stays well formed.
use Rattle.std.proofs.Common.{◌≡◌, ℕ, ◌+◌, Bool, true, false, ◌||◌, List, [], ◌∷◌, ◌++◌, length, get_or, Option, sym, refl, ap, ◌∙◌, subst, append-nil, add-zero, arith, length-set}
use lib.Seq.{length-paste}
use Rattle.std.specs.List.{AllByRecursion}
use Rattle.std.proofs.lemmas.List.{take_more_set, length-map}
use Rattle.std.proofs.ByRecursion.{All-get_or, All-weaker}
use Rattle.rules.specs.Lists.{any}
use Rattle.rules.specs.Views.{Bytes, IdentifierV, InstructionV, FunctionV, Hir, with_identifiers, with_functions, write}
use Rattle.rules.specs.Props.{fresh}
use Rattle.hir.specs.declared.rows.Counts.{Counts}
use Rattle.hir.specs.declared.rows.IdentifierName.{IdentifierName}
use Rattle.hir.specs.declared.rows.Identifier.{Identifier}
use Rattle.hir.specs.declared.rows.Place.{Place}
use Rattle.hir.specs.declared.rows.Instruction.{Instruction}
use Rattle.hir.specs.declared.rows.BasicBlock.{BasicBlock}
use Rattle.hir.specs.declared.rows.HirFunction.{HirFunction}
use Rattle.hir.specs.Tables.{Tables, with_identifier, with_instruction, with_block, with_function, with_text, with_places, with_numbers, with_tag}
use Rattle.hir.specs.View.{Rows, rows, sizes, put_text, put_identifiers, put_places, put_instructions, put_numbers, put_blocks, put_functions, name_view, identifier_view, instruction_view, function_view, bears_name, seen, view, with_row_taken}
use Rattle.hir.specs.WellFormed.{Room, text_limit, identifiers_limit, places_limit, instructions_limit, numbers_limit, blocks_limit, functions_limit, IdentifierFits, PlaceFits, InstructionFits, BlockFits, FunctionFits, BlocksApart, FunctionsApart, Sound, Counted, WellFormed}
use Rattle.hir.specs.Lists.{FunctionFitsIn}
use Rattle.hir.proofs.Runs.{take_written, clear_other_way}
use Rattle.hir.proofs.Pairs.{pairwise_push}
use Rattle.hir.proofs.Same.{prefix_same, Extends, view_grown}
use Rattle.hir.proofs.Growth.{More, extends_more, identifier_grows, place_grows, instruction_grows, block_grows, function_grows, apart_other_way, blocks_apart_still, sound_grown, sizes_are, sound_rows, sound_tables}

-- A view with nothing appended to some of its lists.

pub or_false : (b : Bool) → (b || false) ≡ b
or_false true = refl
or_false false = refl

abbrev pub with_more : Hir → List IdentifierV → List FunctionV → List InstructionV → Bytes → Hir
with_more h is fs xs made = record {
  identifiers = h.identifiers ++ is;
  functions = h.functions ++ fs;
  bears = λ n. h.bears n || any (λ x. bears_name x n) xs;
  used_rows = h.used_rows + length xs;
  counter = h.counter;
  mark = h.mark;
  text = h.text ++ made;
}

-- what is kept where nothing comes to it
abbrev pub lean : (h : Hir) (is : List IdentifierV) (fs : List FunctionV) (made : Bytes) → with_more h is fs [] made ≡ record { identifiers = h.identifiers ++ is; functions = h.functions ++ fs; bears = h.bears; used_rows = h.used_rows; counter = h.counter; mark = h.mark; text = h.text ++ made }
lean h is fs made = λ i. record { identifiers = h.identifiers ++ is; functions = h.functions ++ fs; bears = λ n. or_false (h.bears n) i; used_rows = add-zero h.used_rows i; counter = h.counter; mark = h.mark; text = h.text ++ made }

pub more_none : (h : Hir) → with_more h [] [] [] [] ≡ h
more_none h = lean h [] [] [] ∙ λ i. record { identifiers = append-nil h.identifiers i; functions = append-nil h.functions i; bears = h.bears; used_rows = h.used_rows; counter = h.counter; mark = h.mark; text = append-nil h.text i }

more_identifiers : (h : Hir) (is : List IdentifierV) → with_more h is [] [] [] ≡ with_identifiers h (h.identifiers ++ is)
more_identifiers h is = lean h is [] [] ∙ λ i. record { identifiers = h.identifiers ++ is; functions = append-nil h.functions i; bears = h.bears; used_rows = h.used_rows; counter = h.counter; mark = h.mark; text = append-nil h.text i }

more_functions : (h : Hir) (fs : List FunctionV) → with_more h [] fs [] [] ≡ with_functions h (h.functions ++ fs)
more_functions h fs = lean h [] fs [] ∙ λ i. record { identifiers = append-nil h.identifiers i; functions = h.functions ++ fs; bears = h.bears; used_rows = h.used_rows; counter = h.counter; mark = h.mark; text = append-nil h.text i }

more_text : (h : Hir) (made : Bytes) → with_more h [] [] [] made ≡ write h made
more_text h made = lean h [] [] made ∙ λ i. record { identifiers = append-nil h.identifiers i; functions = append-nil h.functions i; bears = h.bears; used_rows = h.used_rows; counter = h.counter; mark = h.mark; text = h.text ++ made }

more_row : (h : Hir) (x : InstructionV) → with_more h [] [] (x ∷ []) [] ≡ with_row_taken h x
more_row h x = λ i. record { identifiers = append-nil h.identifiers i; functions = append-nil h.functions i; bears = λ n. h.bears n || or_false (bears_name x n) i; used_rows = h.used_rows + 1; counter = h.counter; mark = h.mark; text = append-nil h.text i }

room_after : (used n size limit len : ℕ) → Room used n size limit → len ≡ size → Room (used + n) 0 len limit
room_after used n size limit len r e = record { in_table = omega (arith, r.in_table); in_limit = omega (arith, r.in_limit) }

module _ (t : Tables) (w : WellFormed t) where
  abbrev r : Rows
  r = rows t

  sound : Sound (sizes r) r
  sound = sound_rows t w

  sized : t.counts ≡ sizes r
  sized = sym (sizes_are t w.counted)

  -- an identifier
  module _ (x : Identifier) (room : Room t.counts.identifiers (1) (length t.identifiers) identifiers_limit) where
    abbrev u_identifier : Tables
    u_identifier = with_identifier t x

    abbrev s_identifier : Rows
    s_identifier = put_identifiers r (r.identifiers ++ (x ∷ []))

    abbrev ext_identifier : Extends r s_identifier
    ext_identifier = record { text = prefix_same r.text; identifiers = (x ∷ [], refl); places = prefix_same r.places; instructions = prefix_same r.instructions; numbers = prefix_same r.numbers; blocks = prefix_same r.blocks; functions = prefix_same r.functions }

    pub rows_identifier : rows u_identifier ≡ s_identifier
    rows_identifier = ap (put_identifiers r) (take_more_set t.identifiers t.counts.identifiers x (omega (arith, room.in_table)))

    counted_identifier : Counted u_identifier
    counted_identifier = record { text = w.counted.text; identifiers = room_after t.counts.identifiers (1) (length t.identifiers) identifiers_limit (length u_identifier.identifiers) room (length-set t.identifiers t.counts.identifiers x); places = w.counted.places; instructions = w.counted.instructions; numbers = w.counted.numbers; blocks = w.counted.blocks; functions = w.counted.functions }

    pub view_identifier : view u_identifier ≡ with_identifiers (view t) ((view t).identifiers ++ (identifier_view (view t).text x ∷ []))
    view_identifier = ap seen rows_identifier ∙ view_grown r s_identifier ext_identifier sound ∙ more_identifiers (view t) (identifier_view (view t).text x ∷ [])

    pub well_identifier : IdentifierFits t.counts x → WellFormed u_identifier
    well_identifier fit = sound_tables u_identifier s_identifier counted_identifier rows_identifier (sound_grown r s_identifier ext_identifier sound (identifier_grows (sizes r) (sizes s_identifier) (extends_more r s_identifier ext_identifier) x x.name (subst (λ c. IdentifierFits c x) sized fit), tt) tt tt tt tt w.sound.blocks_apart w.sound.functions_apart)

  -- several places
  module _ (xs : List Place) (room : Room t.counts.places (length xs) (length t.places) places_limit) where
    abbrev u_places : Tables
    u_places = with_places t xs

    abbrev s_places : Rows
    s_places = put_places r (r.places ++ xs)

    abbrev ext_places : Extends r s_places
    ext_places = record { text = prefix_same r.text; identifiers = prefix_same r.identifiers; places = (xs, refl); instructions = prefix_same r.instructions; numbers = prefix_same r.numbers; blocks = prefix_same r.blocks; functions = prefix_same r.functions }

    pub rows_places : rows u_places ≡ s_places
    rows_places = ap (put_places r) (take_written t.places t.counts.places xs room.in_table)

    counted_places : Counted u_places
    counted_places = record { text = w.counted.text; identifiers = w.counted.identifiers; places = room_after t.counts.places (length xs) (length t.places) places_limit (length u_places.places) room (length-paste t.places t.counts.places xs (length xs) room.in_table (omega arith)); instructions = w.counted.instructions; numbers = w.counted.numbers; blocks = w.counted.blocks; functions = w.counted.functions }

    pub view_places : view u_places ≡ view t
    view_places = ap seen rows_places ∙ view_grown r s_places ext_places sound ∙ more_none (view t)

    pub well_places : AllByRecursion (PlaceFits t.counts) xs → WellFormed u_places
    well_places fit = sound_tables u_places s_places counted_places rows_places (sound_grown r s_places ext_places sound tt (All-weaker (PlaceFits (sizes r)) (PlaceFits (sizes s_places)) (place_grows (sizes r) (sizes s_places) (extends_more r s_places ext_places)) xs (subst (λ c. AllByRecursion (PlaceFits c) xs) sized fit)) tt tt tt w.sound.blocks_apart w.sound.functions_apart)

  -- a row
  module _ (x : Instruction) (room : Room t.counts.instructions (1) (length t.instructions) instructions_limit) where
    abbrev u_instruction : Tables
    u_instruction = with_instruction t x

    abbrev s_instruction : Rows
    s_instruction = put_instructions r (r.instructions ++ (x ∷ []))

    abbrev ext_instruction : Extends r s_instruction
    ext_instruction = record { text = prefix_same r.text; identifiers = prefix_same r.identifiers; places = prefix_same r.places; instructions = (x ∷ [], refl); numbers = prefix_same r.numbers; blocks = prefix_same r.blocks; functions = prefix_same r.functions }

    pub rows_instruction : rows u_instruction ≡ s_instruction
    rows_instruction = ap (put_instructions r) (take_more_set t.instructions t.counts.instructions x (omega (arith, room.in_table)))

    counted_instruction : Counted u_instruction
    counted_instruction = record { text = w.counted.text; identifiers = w.counted.identifiers; places = w.counted.places; instructions = room_after t.counts.instructions (1) (length t.instructions) instructions_limit (length u_instruction.instructions) room (length-set t.instructions t.counts.instructions x); numbers = w.counted.numbers; blocks = w.counted.blocks; functions = w.counted.functions }

    pub view_instruction : view u_instruction ≡ with_row_taken (view t) (instruction_view r x)
    view_instruction = ap seen rows_instruction ∙ view_grown r s_instruction ext_instruction sound ∙ more_row (view t) (instruction_view r x)

    pub well_instruction : InstructionFits t.counts x → WellFormed u_instruction
    well_instruction fit = sound_tables u_instruction s_instruction counted_instruction rows_instruction (sound_grown r s_instruction ext_instruction sound tt tt (instruction_grows (sizes r) (sizes s_instruction) (extends_more r s_instruction ext_instruction) x (subst (λ c. InstructionFits c x) sized fit), tt) tt tt w.sound.blocks_apart w.sound.functions_apart)

  -- text
  module _ (xs : List ℕ) (room : Room t.counts.text (length xs) (length t.text) text_limit) where
    abbrev u_text : Tables
    u_text = with_text t xs

    abbrev s_text : Rows
    s_text = put_text r (r.text ++ xs)

    abbrev ext_text : Extends r s_text
    ext_text = record { text = (xs, refl); identifiers = prefix_same r.identifiers; places = prefix_same r.places; instructions = prefix_same r.instructions; numbers = prefix_same r.numbers; blocks = prefix_same r.blocks; functions = prefix_same r.functions }

    pub rows_text : rows u_text ≡ s_text
    rows_text = ap (put_text r) (take_written t.text t.counts.text xs room.in_table)

    counted_text : Counted u_text
    counted_text = record { text = room_after t.counts.text (length xs) (length t.text) text_limit (length u_text.text) room (length-paste t.text t.counts.text xs (length xs) room.in_table (omega arith)); identifiers = w.counted.identifiers; places = w.counted.places; instructions = w.counted.instructions; numbers = w.counted.numbers; blocks = w.counted.blocks; functions = w.counted.functions }

    pub view_text : view u_text ≡ write (view t) xs
    view_text = ap seen rows_text ∙ view_grown r s_text ext_text sound ∙ more_text (view t) xs

    pub well_text : WellFormed u_text
    well_text = sound_tables u_text s_text counted_text rows_text (sound_grown r s_text ext_text sound tt tt tt tt tt w.sound.blocks_apart w.sound.functions_apart)

  -- numbers
  module _ (xs : List ℕ) (room : Room t.counts.numbers (length xs) (length t.numbers) numbers_limit) where
    abbrev u_numbers : Tables
    u_numbers = with_numbers t xs

    abbrev s_numbers : Rows
    s_numbers = put_numbers r (r.numbers ++ xs)

    abbrev ext_numbers : Extends r s_numbers
    ext_numbers = record { text = prefix_same r.text; identifiers = prefix_same r.identifiers; places = prefix_same r.places; instructions = prefix_same r.instructions; numbers = (xs, refl); blocks = prefix_same r.blocks; functions = prefix_same r.functions }

    pub rows_numbers : rows u_numbers ≡ s_numbers
    rows_numbers = ap (put_numbers r) (take_written t.numbers t.counts.numbers xs room.in_table)

    counted_numbers : Counted u_numbers
    counted_numbers = record { text = w.counted.text; identifiers = w.counted.identifiers; places = w.counted.places; instructions = w.counted.instructions; numbers = room_after t.counts.numbers (length xs) (length t.numbers) numbers_limit (length u_numbers.numbers) room (length-paste t.numbers t.counts.numbers xs (length xs) room.in_table (omega arith)); blocks = w.counted.blocks; functions = w.counted.functions }

    pub view_numbers : view u_numbers ≡ view t
    view_numbers = ap seen rows_numbers ∙ view_grown r s_numbers ext_numbers sound ∙ more_none (view t)

    pub well_numbers : WellFormed u_numbers
    well_numbers = sound_tables u_numbers s_numbers counted_numbers rows_numbers (sound_grown r s_numbers ext_numbers sound tt tt tt tt tt (blocks_apart_still r s_numbers ext_numbers sound) w.sound.functions_apart)

  -- a block
  module _ (x : BasicBlock) (room : Room t.counts.blocks (1) (length t.blocks) blocks_limit) where
    abbrev u_block : Tables
    u_block = with_block t x

    abbrev s_block : Rows
    s_block = put_blocks r (r.blocks ++ (x ∷ []))

    abbrev ext_block : Extends r s_block
    ext_block = record { text = prefix_same r.text; identifiers = prefix_same r.identifiers; places = prefix_same r.places; instructions = prefix_same r.instructions; numbers = prefix_same r.numbers; blocks = (x ∷ [], refl); functions = prefix_same r.functions }

    pub rows_block : rows u_block ≡ s_block
    rows_block = ap (put_blocks r) (take_more_set t.blocks t.counts.blocks x (omega (arith, room.in_table)))

    counted_block : Counted u_block
    counted_block = record { text = w.counted.text; identifiers = w.counted.identifiers; places = w.counted.places; instructions = w.counted.instructions; numbers = w.counted.numbers; blocks = room_after t.counts.blocks (1) (length t.blocks) blocks_limit (length u_block.blocks) room (length-set t.blocks t.counts.blocks x); functions = w.counted.functions }

    pub view_block : view u_block ≡ view t
    view_block = ap seen rows_block ∙ view_grown r s_block ext_block sound ∙ more_none (view t)

    pub well_block : BlockFits t.counts r.numbers x → AllByRecursion (λ b. BlocksApart r.numbers b x) r.blocks → WellFormed u_block
    well_block fit apart = sound_tables u_block s_block counted_block rows_block (sound_grown r s_block ext_block sound tt tt tt (block_grows (sizes r) (sizes s_block) (extends_more r s_block ext_block) r.numbers r.numbers (prefix_same r.numbers) refl x (subst (λ c. BlockFits c r.numbers x) sized fit), tt) tt (pairwise_push (BlocksApart r.numbers) r.blocks x w.sound.blocks_apart (λ i d h. let a = All-get_or (λ b. BlocksApart r.numbers b x) r.blocks i d h apart in (a, apart_other_way r.numbers (get_or r.blocks i d) x a))) w.sound.functions_apart)

  -- a function
  module _ (x : HirFunction) (room : Room t.counts.functions (1) (length t.functions) functions_limit) where
    abbrev u_function : Tables
    u_function = with_function t x

    abbrev s_function : Rows
    s_function = put_functions r (r.functions ++ (x ∷ []))

    abbrev ext_function : Extends r s_function
    ext_function = record { text = prefix_same r.text; identifiers = prefix_same r.identifiers; places = prefix_same r.places; instructions = prefix_same r.instructions; numbers = prefix_same r.numbers; blocks = prefix_same r.blocks; functions = (x ∷ [], refl) }

    pub rows_function : rows u_function ≡ s_function
    rows_function = ap (put_functions r) (take_more_set t.functions t.counts.functions x (omega (arith, room.in_table)))

    counted_function : Counted u_function
    counted_function = record { text = w.counted.text; identifiers = w.counted.identifiers; places = w.counted.places; instructions = w.counted.instructions; numbers = w.counted.numbers; blocks = w.counted.blocks; functions = room_after t.counts.functions (1) (length t.functions) functions_limit (length u_function.functions) room (length-set t.functions t.counts.functions x) }

    pub view_function : view u_function ≡ with_functions (view t) ((view t).functions ++ (function_view r x ∷ []))
    view_function = ap seen rows_function ∙ view_grown r s_function ext_function sound ∙ more_functions (view t) (function_view r x ∷ [])

    pub well_function : FunctionFitsIn t x → WellFormed u_function
    well_function fit = sound_tables u_function s_function counted_function rows_function (sound_grown r s_function ext_function sound tt tt tt tt (function_grows (sizes r) (sizes s_function) (extends_more r s_function ext_function) x (subst (λ c. FunctionFits c x) sized fit.fits), tt) w.sound.blocks_apart (pairwise_push FunctionsApart r.functions x w.sound.functions_apart (λ i d h. let a = All-get_or (λ (g : HirFunction). FunctionsApart g x) r.functions i d h fit.apart in (a, clear_other_way (get_or r.functions i d).blocks x.blocks a))))

  -- a fresh identifier: its declaration number is its own
  module _ (n : Option IdentifierName) (room : Room t.counts.identifiers 1 (length t.identifiers) identifiers_limit) where
    abbrev pub fresh_row : Identifier
    fresh_row = record { declaration = t.counts.identifiers; name = n }

    pub identifiers_seen : t.counts.identifiers ≡ length (view t).identifiers
    identifiers_seen = ap (λ (c : Counts). c.identifiers) sized ∙ sym (length-map r.identifiers (identifier_view r.text))

    pub view_fresh : view (with_identifier t fresh_row) ≡ fresh (view t) (name_view (view t).text n)
    view_fresh = view_identifier fresh_row room ∙ ap (λ d. with_identifiers (view t) ((view t).identifiers ++ (record { declaration = d; name = name_view (view t).text n } ∷ []))) identifiers_seen

  -- a tag's number: no row changes
  pub well_tag : (number : ℕ) → WellFormed (with_tag t number)
  well_tag number = record {
    counted = record { text = w.counted.text; identifiers = w.counted.identifiers; places = w.counted.places; instructions = w.counted.instructions; numbers = w.counted.numbers; blocks = w.counted.blocks; functions = w.counted.functions };
    sound = record {
      identifiers = All-weaker (IdentifierFits t.counts) (IdentifierFits (with_tag t number).counts) (λ x. identifier_grows t.counts (with_tag t number).counts alike x x.name) r.identifiers w.sound.identifiers;
      places = All-weaker (PlaceFits t.counts) (PlaceFits (with_tag t number).counts) (place_grows t.counts (with_tag t number).counts alike) r.places w.sound.places;
      instructions = All-weaker (InstructionFits t.counts) (InstructionFits (with_tag t number).counts) (instruction_grows t.counts (with_tag t number).counts alike) r.instructions w.sound.instructions;
      blocks = All-weaker (BlockFits t.counts r.numbers) (BlockFits (with_tag t number).counts r.numbers) (block_grows t.counts (with_tag t number).counts alike r.numbers r.numbers (prefix_same r.numbers) (ap (λ (c : Counts). c.numbers) sized)) r.blocks w.sound.blocks;
      functions = All-weaker (FunctionFits t.counts) (FunctionFits (with_tag t number).counts) (function_grows t.counts (with_tag t number).counts alike) r.functions w.sound.functions;
      blocks_apart = w.sound.blocks_apart;
      functions_apart = w.sound.functions_apart;
    };
  }
    where
      alike : More t.counts (with_tag t number).counts
      alike = record { text = omega arith; identifiers = omega arith; places = omega arith; instructions = omega arith; numbers = omega arith; blocks = omega arith; functions = omega arith }
