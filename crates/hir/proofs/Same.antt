-- Used rows that stand are seen the same when rows are appended.
use Rattle.std.proofs.Common.{◌≡◌, ℕ, ◌+◌, ◌<◌, ◌≤◌, Bool, true, false, ◌&&◌, ◌||◌, eqb, List, [], ◌∷◌, ◌++◌, map, length, get_or, drop, Some, None, Option, sym, refl, ap, ◌∙◌, append-nil, arith, length-append}
use mathlib.Core.List.{map-append}
use Rattle.std.specs.List.{AllByRecursion}
use Rattle.std.proofs.lemmas.List.{get_or_append_left}
use Rattle.std.proofs.ByRecursion.{All-get_or, All-take, All-drop}
use Rattle.rules.specs.Lists.{any}
use Rattle.rules.specs.Kinds.{load_global_kind, store_global_kind}
use Rattle.rules.specs.Views.{Bytes, NameV, Hir}
use Rattle.rules.specs.Names.{same_name}
use Rattle.hir.specs.declared.rows.Name.{Name}
use Rattle.hir.specs.declared.rows.Run.{Run}
use Rattle.hir.specs.declared.rows.IdentifierName.{IdentifierName}
use Rattle.hir.specs.declared.rows.IdentifierName.TheVariants.{Named, Promoted}
use Rattle.hir.specs.declared.rows.Identifier.{Identifier}
use Rattle.hir.specs.declared.rows.Place.{Place}
use Rattle.hir.specs.declared.rows.Instruction.{Instruction}
use Rattle.hir.specs.declared.rows.BasicBlock.{BasicBlock}
use Rattle.hir.specs.declared.rows.HirFunction.{HirFunction}
use Rattle.hir.specs.Used.{in_run}
use Rattle.hir.specs.View.{Rows, sizes, spelt, spelt_if, name_view, identifier_view, place_view, places_view, instruction_view, null_instruction, instruction_at, instructions_at, block_view, function_view, bears_name, seen}
use Rattle.hir.specs.WellFormed.{NameFits, RunFits, NameIfFits, IdentifierNameFits, IdentifierFits, PlaceFits, InstructionFits, BlockFits, FunctionFits, Sound}
use Rattle.hir.proofs.Runs.{run_of, run_more}

-- the second list begins with the first
abbrev pub Prefix : {A : Type 0} → List A → List A → Type 0
Prefix {A} xs ys = (rest : List A) × (ys ≡ xs ++ rest)

abbrev pub prefix_same : {A : Type 0} (xs : List A) → Prefix xs xs
prefix_same xs = ([], sym (append-nil xs))

pub prefix_length : {A : Type 0} (xs ys : List A) → Prefix xs ys → length xs ≤ length ys
prefix_length xs ys p = let e = length-append xs p.0 in let f = ap length p.1 in omega arith

pub prefix_run : {A : Type 0} (run : Run) (xs ys : List A) → Prefix xs ys → RunFits run (length xs) → in_run ys run ≡ in_run xs run
prefix_run run xs ys p h = ap (λ v. in_run v run) p.1 ∙ run_more run xs p.0 h

-- every used row stands as it stood, with others after it
pub record Extends (r s : Rows) : Type 0 where
  pub text : Prefix r.text s.text
  pub identifiers : Prefix r.identifiers s.identifiers
  pub places : Prefix r.places s.places
  pub instructions : Prefix r.instructions s.instructions
  pub numbers : Prefix r.numbers s.numbers
  pub blocks : Prefix r.blocks s.blocks
  pub functions : Prefix r.functions s.functions

-- the used text, places and rows stand: enough for names, places and rows to be seen the same
pub record Stays (r s : Rows) : Type 0 where
  pub text : Prefix r.text s.text
  pub places : Prefix r.places s.places
  pub instructions : Prefix r.instructions s.instructions

abbrev pub stays : (r s : Rows) → Extends r s → Stays r s
stays r s e = record { text = e.text; places = e.places; instructions = e.instructions }

pub map_same : {A B : Type 0} (P : A → Type 0) (f g : A → B) → ((x : A) → P x → f x ≡ g x) → (xs : List A) → AllByRecursion P xs → map f xs ≡ map g xs
map_same P f g h [] a = refl
map_same P f g h (x ∷ xs) a = λ i. h x a.0 i ∷ map_same P f g h xs a.1 i

any_same : {A : Type 0} (P : A → Type 0) (f g : A → Bool) → ((x : A) → P x → f x ≡ g x) → (xs : List A) → AllByRecursion P xs → any f xs ≡ any g xs
any_same P f g h [] a = refl
any_same P f g h (x ∷ xs) a = λ i. h x a.0 i || any_same P f g h xs a.1 i

any_append : {A : Type 0} (f : A → Bool) (xs ys : List A) → any f (xs ++ ys) ≡ (any f xs || any f ys)
any_append f [] ys = refl
any_append f (x ∷ xs) ys = elim (f x) as (λ b. (b || any f (xs ++ ys)) ≡ ((b || any f xs) || any f ys)) [ true ↦ refl | false ↦ any_append f xs ys ]

all_in_run : {A : Type 0} (P : A → Type 0) (run : Run) (xs : List A) → AllByRecursion P xs → AllByRecursion P (in_run xs run)
all_in_run P run xs a = All-take P run.count (drop run.first xs) (All-drop P run.first xs a)

module _ (r s : Rows) (e : Stays r s) where
  pub spelt_same : (n : Name) → NameFits (sizes r) n → spelt s.text n ≡ spelt r.text n
  spelt_same n h = prefix_run (run_of n.start n.len) r.text s.text e.text h.inside

  pub spelt_if_same : (n : Option Name) → NameIfFits (sizes r) n → spelt_if s.text n ≡ spelt_if r.text n
  spelt_if_same None h = refl
  spelt_if_same (Some n) h = ap Some (spelt_same n h)

  pub name_same : (n : Option IdentifierName) → IdentifierNameFits (sizes r) n → name_view s.text n ≡ name_view r.text n
  name_same None h = refl
  name_same (Some (Named n)) h = ap NameV.named (spelt_same n h)
  name_same (Some (Promoted n)) h = ap NameV.promoted (spelt_same n h)

  pub identifier_same : (x : Identifier) → IdentifierFits (sizes r) x → identifier_view s.text x ≡ identifier_view r.text x
  identifier_same x h = λ i. record { declaration = x.declaration; name = name_same x.name h i }

  pub place_same : (p : Place) → PlaceFits (sizes r) p → place_view s.text p ≡ place_view r.text p
  place_same p h = λ i. record { role = p.role; name = spelt_if_same p.name h.name i; identifier = p.identifier.0; effect = p.effect; reactive = p.reactive; span = p.span }

  pub places_same : Sound (sizes r) r → (run : Run) → RunFits run (length r.places) → places_view s run ≡ places_view r run
  places_same w run h =
      ap (map (place_view s.text)) (prefix_run run r.places s.places e.places h)
      ∙ map_same (PlaceFits (sizes r)) (place_view s.text) (place_view r.text) place_same (in_run r.places run) (all_in_run (PlaceFits (sizes r)) run r.places w.places)

  pub instruction_same : Sound (sizes r) r → (x : Instruction) → InstructionFits (sizes r) x → instruction_view s x ≡ instruction_view r x
  instruction_same w x h = λ i. record { order = x.order; kind = x.kind; result = place_same x.result h.result i; name = spelt_if_same x.name h.name i; detail = x.detail; function = x.function.0; places = places_same w x.places h.places i; span = x.span; opening = x.opening; closing = x.closing; effects = x.effects }

  pub instruction_at_same : Sound (sizes r) r → (n : ℕ) → n < length r.instructions → instruction_at s n ≡ instruction_at r n
  instruction_at_same w n h =
      ap (λ ls. instruction_view s (get_or ls n null_instruction)) e.instructions.1
      ∙ ap (instruction_view s) (get_or_append_left r.instructions e.instructions.0 null_instruction n h)
      ∙ instruction_same w (get_or r.instructions n null_instruction) (All-get_or (InstructionFits (sizes r)) r.instructions n null_instruction h w.instructions)

  pub instructions_at_same : Sound (sizes r) r → (ns : List ℕ) → AllByRecursion (λ n. n < length r.instructions) ns → instructions_at s ns ≡ instructions_at r ns
  instructions_at_same w ns a = map_same (λ n. n < length r.instructions) (instruction_at s) (instruction_at r) (instruction_at_same w) ns a

  pub bears_same : (n : Bytes) (x : Instruction) → InstructionFits (sizes r) x → bears_name (instruction_view s x) n ≡ bears_name (instruction_view r x) n
  bears_same n x h = ap (λ m. (eqb x.kind load_global_kind || eqb x.kind store_global_kind) && same_name (Some n) m) (spelt_if_same x.name h.name)

module _ (r s : Rows) (e : Extends r s) where
  pub block_same : Sound (sizes r) r → (b : BasicBlock) → BlockFits (sizes r) r.numbers b → block_view s b ≡ block_view r b
  block_same w b h = λ i. record {
    kind = b.kind;
    terminal = b.terminal;
    detail = b.detail;
    places = places_same r s (stays r s e) w b.places h.places i;
    rows = (ap (instructions_at s) (prefix_run b.instructions r.numbers s.numbers e.numbers h.instructions) ∙ instructions_at_same r s (stays r s e) w (in_run r.numbers b.instructions) h.listed) i;
    preds = prefix_run b.preds r.numbers s.numbers e.numbers h.preds i;
  }

  pub blocks_same : Sound (sizes r) r → (run : Run) → RunFits run (length r.blocks) → map (block_view s) (in_run s.blocks run) ≡ map (block_view r) (in_run r.blocks run)
  blocks_same w run h =
      ap (map (block_view s)) (prefix_run run r.blocks s.blocks e.blocks h)
      ∙ map_same (BlockFits (sizes r) r.numbers) (block_view s) (block_view r) (block_same w) (in_run r.blocks run) (all_in_run (BlockFits (sizes r) r.numbers) run r.blocks w.blocks)

  pub function_same : Sound (sizes r) r → (f : HirFunction) → FunctionFits (sizes r) f → function_view s f ≡ function_view r f
  function_same w f h = λ i. record {
    type = f.fn_type;
    blocks = blocks_same w f.blocks h.blocks i;
    params = places_same r s (stays r s e) w f.params h.params i;
    context = places_same r s (stays r s e) w f.context h.context i;
    returns = place_same r s (stays r s e) f.returns h.returns i;
    tag = spelt_if_same r s (stays r s e) f.tag h.tag i;
    appended = f.appended;
  }

  -- what the view becomes: what was seen before, and after it what was appended
  abbrev pub grown : Hir
  grown = record {
    identifiers = map (identifier_view r.text) r.identifiers ++ map (identifier_view s.text) e.identifiers.0;
    functions = map (function_view r) r.functions ++ map (function_view s) e.functions.0;
    bears = λ n. (seen r).bears n || any (λ x. bears_name (instruction_view s x) n) e.instructions.0;
    used_rows = length r.instructions + length e.instructions.0;
    counter = s.counter;
    mark = s.mark;
    text = r.text ++ e.text.0;
  }

  -- THE FRAME LEMMA: appending leaves the view of all that was used
  pub view_grown : Sound (sizes r) r → seen s ≡ grown
  view_grown w = λ i. record {
    identifiers = (ap (map (identifier_view s.text)) e.identifiers.1 ∙ map-append (identifier_view s.text) r.identifiers e.identifiers.0 ∙ ap (λ v. v ++ map (identifier_view s.text) e.identifiers.0) (map_same (IdentifierFits (sizes r)) (identifier_view s.text) (identifier_view r.text) (identifier_same r s (stays r s e)) r.identifiers w.identifiers)) i;
    functions = (ap (map (function_view s)) e.functions.1 ∙ map-append (function_view s) r.functions e.functions.0 ∙ ap (λ v. v ++ map (function_view s) e.functions.0) (map_same (FunctionFits (sizes r)) (function_view s) (function_view r) (function_same w) r.functions w.functions)) i;
    bears = λ n. (ap (any (λ x. bears_name (instruction_view s x) n)) e.instructions.1 ∙ any_append (λ x. bears_name (instruction_view s x) n) r.instructions e.instructions.0 ∙ ap (λ b. b || any (λ x. bears_name (instruction_view s x) n) e.instructions.0) (any_same (InstructionFits (sizes r)) (λ x. bears_name (instruction_view s x) n) (λ x. bears_name (instruction_view r x) n) (bears_same r s (stays r s e) n) r.instructions w.instructions)) i;
    used_rows = (ap length e.instructions.1 ∙ length-append r.instructions e.instructions.0) i;
    counter = s.counter;
    mark = s.mark;
    text = e.text.1 i;
  }
