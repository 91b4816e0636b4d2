-- Appended rows: what fitted fits still, and a sound store stays sound.
use Rattle.std.proofs.Common.{◌≡◌, ℕ, ◌<◌, ◌≤◌, ◌≢◌, List, length, Some, None, Option, sym, refl, subst, arith, length-take-le}
use Rattle.std.specs.List.{AllByRecursion}
use Rattle.std.proofs.ByRecursion.{All-weaker, All-append}
use Rattle.hir.specs.declared.rows.Name.{Name}
use Rattle.hir.specs.declared.rows.Counts.{Counts}
use Rattle.hir.specs.declared.rows.IdentifierName.{IdentifierName}
use Rattle.hir.specs.declared.rows.IdentifierName.TheVariants.{Named, Promoted}
use Rattle.hir.specs.declared.rows.Identifier.{Identifier}
use Rattle.hir.specs.declared.rows.Place.{Place}
use Rattle.hir.specs.declared.rows.Instruction.{Instruction}
use Rattle.hir.specs.declared.rows.BasicBlock.{BasicBlock}
use Rattle.hir.specs.declared.rows.HirFunction.{HirFunction}
use Rattle.hir.specs.Used.{in_run}
use Rattle.hir.specs.Tables.{Tables}
use Rattle.hir.specs.View.{Rows, rows, sizes}
use Rattle.hir.specs.WellFormed.{NameFits, NameIfFits, IdentifierNameFits, IdentifierFits, PlaceFits, InstructionFits, BlockFits, FunctionFits, BlocksApart, FunctionsApart, Pairwise, Unlike, Sound, Counted, WellFormed}
use Rattle.hir.proofs.Runs.{clear_other_way}
use Rattle.hir.proofs.Pairs.{pairwise_under}
use Rattle.hir.proofs.Same.{Prefix, prefix_length, prefix_run, Extends}

-- no count is less
pub record More (c d : Counts) : Type 0 where
  pub text : c.text ≤ d.text
  pub identifiers : c.identifiers ≤ d.identifiers
  pub places : c.places ≤ d.places
  pub instructions : c.instructions ≤ d.instructions
  pub numbers : c.numbers ≤ d.numbers
  pub blocks : c.blocks ≤ d.blocks
  pub functions : c.functions ≤ d.functions

pub extends_more : (r s : Rows) → Extends r s → More (sizes r) (sizes s)
extends_more r s e = record {
  text = prefix_length r.text s.text e.text;
  identifiers = prefix_length r.identifiers s.identifiers e.identifiers;
  places = prefix_length r.places s.places e.places;
  instructions = prefix_length r.instructions s.instructions e.instructions;
  numbers = prefix_length r.numbers s.numbers e.numbers;
  blocks = prefix_length r.blocks s.blocks e.blocks;
  functions = prefix_length r.functions s.functions e.functions;
}

module _ (c d : Counts) (m : More c d) where
  pub name_grows : (n : Name) → NameFits c n → NameFits d n
  name_grows n h = record { some = h.some; inside = omega (arith, h.inside, m.text) }

  pub name_if_grows : (n : Option Name) → NameIfFits c n → NameIfFits d n
  name_if_grows None h = h
  name_if_grows (Some n) h = name_grows n h

  pub identifier_grows : (x : Identifier) (n : Option IdentifierName) → IdentifierNameFits c n → IdentifierNameFits d n
  identifier_grows x None h = h
  identifier_grows x (Some (Named n)) h = name_grows n h
  identifier_grows x (Some (Promoted n)) h = name_grows n h

  pub place_grows : (p : Place) → PlaceFits c p → PlaceFits d p
  place_grows p h = record { name = name_if_grows p.name h.name; identifier = omega (arith, h.identifier, m.identifiers) }

  pub instruction_grows : (x : Instruction) → InstructionFits c x → InstructionFits d x
  instruction_grows x h = record {
    result = place_grows x.result h.result;
    name = name_if_grows x.name h.name;
    function = λ e. let g = h.function e in omega (arith, g, m.functions);
    places = omega (arith, h.places, m.places);
  }

  pub block_grows : (ns ms : List ℕ) → Prefix ns ms → c.numbers ≡ length ns → (b : BasicBlock) → BlockFits c ns b → BlockFits d ms b
  block_grows ns ms p z b h =
      let i : in_run ns b.instructions ≡ in_run ms b.instructions = sym (prefix_run b.instructions ns ms p (omega (arith, h.instructions))) in
      let q : in_run ns b.preds ≡ in_run ms b.preds = sym (prefix_run b.preds ns ms p (omega (arith, h.preds))) in
      record {
        places = omega (arith, h.places, m.places);
        instructions = omega (arith, h.instructions, m.numbers);
        preds = omega (arith, h.preds, m.numbers);
        listed = subst (AllByRecursion (λ n. n < d.instructions)) i (All-weaker (λ n. n < c.instructions) (λ n. n < d.instructions) (λ n l. omega (arith, m.instructions)) (in_run ns b.instructions) h.listed);
        named = subst (AllByRecursion (λ n. n < d.blocks)) q (All-weaker (λ n. n < c.blocks) (λ n. n < d.blocks) (λ n l. omega (arith, m.blocks)) (in_run ns b.preds) h.named);
        once = subst (λ (l : List ℕ). Pairwise ◌≢◌ l) i h.once;
        own = h.own;
      }

  pub function_grows : (f : HirFunction) → FunctionFits c f → FunctionFits d f
  function_grows f h = record {
    blocks = omega (arith, h.blocks, m.blocks);
    params = omega (arith, h.params, m.places);
    context = omega (arith, h.context, m.places);
    returns = place_grows f.returns h.returns;
    tag = name_if_grows f.tag h.tag;
  }

-- two blocks stay apart where there are more numbers
pub apart_grows : (c : Counts) (ns ms : List ℕ) → Prefix ns ms → c.numbers ≡ length ns → (x y : BasicBlock) → BlockFits c ns x → BlockFits c ns y → BlocksApart ns x y → BlocksApart ms x y
apart_grows c ns ms p z x y hx hy a = record {
  lists = a.lists;
  list_preds = a.list_preds;
  preds_list = a.preds_list;
  preds = a.preds;
  rows =
      let i : in_run ns x.instructions ≡ in_run ms x.instructions = sym (prefix_run x.instructions ns ms p (omega (arith, hx.instructions))) in
      let j : in_run ns y.instructions ≡ in_run ms y.instructions = sym (prefix_run y.instructions ns ms p (omega (arith, hy.instructions))) in
      subst (λ (l : List ℕ). Unlike l (in_run ms y.instructions)) i (subst (λ (l : List ℕ). Unlike (in_run ns x.instructions) l) j a.rows);
}

pub unlike_other_way : (xs ys : List ℕ) → Unlike xs ys → Unlike ys xs
unlike_other_way xs ys u k l d h g e = u l k d g h (sym e)

pub apart_other_way : (ns : List ℕ) (x y : BasicBlock) → BlocksApart ns x y → BlocksApart ns y x
apart_other_way ns x y a = record {
  lists = clear_other_way x.instructions y.instructions a.lists;
  list_preds = clear_other_way x.preds y.instructions a.preds_list;
  preds_list = clear_other_way x.instructions y.preds a.list_preds;
  preds = clear_other_way x.preds y.preds a.preds;
  rows = unlike_other_way (in_run ns x.instructions) (in_run ns y.instructions) a.rows;
}

joined_all : {A : Type 0} (P Q : A → Type 0) → ((x : A) → P x → Q x) → (xs ys : List A) → (p : Prefix xs ys) → AllByRecursion P xs → AllByRecursion Q p.0 → AllByRecursion Q ys
joined_all P Q f xs ys p a b = subst (AllByRecursion Q) (sym p.1) (All-append Q xs p.0 (All-weaker P Q f xs a) b)

module _ (r s : Rows) (e : Extends r s) (w : Sound (sizes r) r) where
  more : More (sizes r) (sizes s)
  more = extends_more r s e

  -- the blocks that stood, still apart where numbers were appended
  pub blocks_apart_still : Pairwise (BlocksApart s.numbers) r.blocks
  blocks_apart_still = pairwise_under (BlocksApart r.numbers) (BlockFits (sizes r) r.numbers) (BlocksApart s.numbers) (apart_grows (sizes r) r.numbers s.numbers e.numbers refl) r.blocks w.blocks w.blocks_apart

  pub sound_grown : AllByRecursion (IdentifierFits (sizes s)) e.identifiers.0 → AllByRecursion (PlaceFits (sizes s)) e.places.0 → AllByRecursion (InstructionFits (sizes s)) e.instructions.0
      → AllByRecursion (BlockFits (sizes s) s.numbers) e.blocks.0 → AllByRecursion (FunctionFits (sizes s)) e.functions.0
      → Pairwise (BlocksApart s.numbers) s.blocks → Pairwise FunctionsApart s.functions → Sound (sizes s) s
  sound_grown is ps ls bs fs ba fa = record {
    identifiers = joined_all (IdentifierFits (sizes r)) (IdentifierFits (sizes s)) (λ x. identifier_grows (sizes r) (sizes s) more x x.name) r.identifiers s.identifiers e.identifiers w.identifiers is;
    places = joined_all (PlaceFits (sizes r)) (PlaceFits (sizes s)) (place_grows (sizes r) (sizes s) more) r.places s.places e.places w.places ps;
    instructions = joined_all (InstructionFits (sizes r)) (InstructionFits (sizes s)) (instruction_grows (sizes r) (sizes s) more) r.instructions s.instructions e.instructions w.instructions ls;
    blocks = joined_all (BlockFits (sizes r) r.numbers) (BlockFits (sizes s) s.numbers) (block_grows (sizes r) (sizes s) more r.numbers s.numbers e.numbers refl) r.blocks s.blocks e.blocks w.blocks bs;
    functions = joined_all (FunctionFits (sizes r)) (FunctionFits (sizes s)) (function_grows (sizes r) (sizes s) more) r.functions s.functions e.functions w.functions fs;
    blocks_apart = ba;
    functions_apart = fa;
  }

-- the counts are the sizes of the used rows
pub sizes_are : (t : Tables) → Counted t → sizes (rows t) ≡ t.counts
sizes_are t c = λ i. record {
  text = length-take-le t.counts.text t.text (omega (arith, c.text.in_table)) i;
  identifiers = length-take-le t.counts.identifiers t.identifiers (omega (arith, c.identifiers.in_table)) i;
  places = length-take-le t.counts.places t.places (omega (arith, c.places.in_table)) i;
  instructions = length-take-le t.counts.instructions t.instructions (omega (arith, c.instructions.in_table)) i;
  numbers = length-take-le t.counts.numbers t.numbers (omega (arith, c.numbers.in_table)) i;
  blocks = length-take-le t.counts.blocks t.blocks (omega (arith, c.blocks.in_table)) i;
  functions = length-take-le t.counts.functions t.functions (omega (arith, c.functions.in_table)) i;
  tag_counter = t.counts.tag_counter;
  tag_mark = t.counts.tag_mark;
}

pub sound_rows : (t : Tables) → WellFormed t → Sound (sizes (rows t)) (rows t)
sound_rows t w = subst (λ c. Sound c (rows t)) (sym (sizes_are t w.counted)) w.sound

pub sound_tables : (t : Tables) (s : Rows) → Counted t → rows t ≡ s → Sound (sizes s) s → WellFormed t
sound_tables t s c e w = record { counted = c; sound = subst (λ d. Sound d (rows t)) (sizes_are t c) (subst (λ (r : Rows). Sound (sizes r) r) (sym e) w) }
