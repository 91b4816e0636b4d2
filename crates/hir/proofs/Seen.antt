-- What a row, its places and a block's list are, as the code reads them.
use Rattle.std.proofs.Common.{◌≡◌, ℕ, zero, suc, ◌+◌, ◌-◌, ◌<◌, ◌≤◌, List, [], ◌∷◌, map, length, get_or, take, drop, sym, refl, ap, ◌∙◌, subst, arith, length-take-le, get_or-take}
use Rattle.std.specs.List.{AllByRecursion}
use Rattle.std.proofs.ByRecursion.{All-get_or, All-take, All-drop, All-weaker}
use Rattle.std.proofs.lemmas.List.{get_or-map, length-map}
use Rattle.rules.specs.Views.{InstructionV, FunctionV, no_function, function_at, block_rows, rows_at}
use Rattle.hir.specs.declared.rows.Run.{Run}
use Rattle.hir.specs.declared.rows.Counts.{Counts}
use Rattle.hir.specs.declared.rows.Instruction.{Instruction}
use Rattle.hir.specs.declared.rows.BasicBlock.{BasicBlock}
use Rattle.hir.specs.declared.rows.HirFunction.{HirFunction}
use Rattle.hir.specs.Used.{in_run}
use Rattle.hir.specs.Tables.{Tables}
use Rattle.hir.specs.View.{Rows, rows, null_instruction, null_block, null_function, place_view, instruction_view, instruction_at, instructions_at, block_view, function_view, view}
use Rattle.hir.specs.WellFormed.{RunFits, PlaceFits, InstructionFits, BlockFits, FunctionFits, Readable, WellFormed}
use Rattle.hir.specs.Legible.{BlockLegible, Legible}
use Rattle.hir.specs.Lists.{block_number, block_of}
use Rattle.hir.proofs.Runs.{run_used, length_run, getD_run, covered}
use Rattle.hir.proofs.Growth.{sizes_are}

pub readable : (t : Tables) → WellFormed t → Readable t
readable t w = record { counted = w.counted; places = w.sound.places; instructions = w.sound.instructions }

pub legible : (t : Tables) → WellFormed t → Legible t
legible t w = record {
  readable = readable t w;
  identifiers = w.sound.identifiers;
  blocks = All-weaker (BlockFits t.counts (rows t).numbers) (BlockLegible t.counts (rows t).numbers) (λ b h. record { instructions = h.instructions; listed = h.listed }) (rows t).blocks w.sound.blocks;
  functions = w.sound.functions;
}

-- a slice of a table, from `first` to `first + count`, is what the run covers
pub slice_run : {A : Type 0} (run : Run) (u : ℕ) (xs : List A) → u ≤ length xs → RunFits run u → take (run.first + run.count - run.first) (drop run.first xs) ≡ in_run (take u xs) run
slice_run run u xs l h =
    let size : length (take u xs) ≡ u = length-take-le u xs l in
    let e : run.first + run.count - run.first ≡ run.count = omega arith in
    ap (λ v. take v (drop run.first xs)) e ∙ sym (run_used run u xs (omega arith))

module _ (t : Tables) (w : Readable t) (n : ℕ) (h : n < t.counts.instructions) where
  abbrev row : Instruction
  row = get_or t.instructions n null_instruction

  pub row_is : get_or (rows t).instructions n null_instruction ≡ row
  row_is = get_or-take t.counts.instructions t.instructions n null_instruction h

  pub row_fits : InstructionFits t.counts row
  row_fits = subst (InstructionFits t.counts) row_is (All-get_or (InstructionFits t.counts) (rows t).instructions n null_instruction (omega (arith, ap (λ (c : Counts). c.instructions) (sizes_are t w.counted))) w.instructions)

  -- the row is seen as its fields say
  pub row_seen : instruction_view (rows t) row ≡ instruction_at (rows t) n
  row_seen = ap (instruction_view (rows t)) (sym row_is)

  pub places_read : map (place_view (view t).text) (take (row.places.first + row.places.count - row.places.first) (drop row.places.first t.places)) ≡ (instruction_at (rows t) n).places
  places_read = ap (map (place_view (view t).text)) (slice_run row.places t.counts.places t.places (omega (arith, w.counted.places.in_table)) row_fits.places) ∙ ap (λ (x : InstructionV). x.places) row_seen

  pub places_fit : AllByRecursion (PlaceFits t.counts) (take (row.places.first + row.places.count - row.places.first) (drop row.places.first t.places))
  places_fit = subst (AllByRecursion (PlaceFits t.counts)) (sym (slice_run row.places t.counts.places t.places (omega (arith, w.counted.places.in_table)) row_fits.places))
      (All-take (PlaceFits t.counts) row.places.count (drop row.places.first (rows t).places) (All-drop (PlaceFits t.counts) row.places.first (rows t).places w.places))

block_rows_at : (r : Rows) (bs : List BasicBlock) (k : ℕ) (d : BasicBlock) → k < length bs → block_rows (map (block_view r) bs) k ≡ (block_view r (get_or bs k d)).rows
block_rows_at r [] k d h = absurd (omega arith)
block_rows_at r (b ∷ bs) zero d h = refl
block_rows_at r (b ∷ bs) (suc k) d h = block_rows_at r bs k d (omega arith)

-- a used function
module _ (t : Tables) (l : Legible t) (f : ℕ) (used : f < t.counts.functions) where
  abbrev own : HirFunction
  own = get_or t.functions f null_function

  functions_size : length (rows t).functions ≡ t.counts.functions
  functions_size = ap (λ (c : Counts). c.functions) (sizes_are t l.readable.counted)

  blocks_size : length (rows t).blocks ≡ t.counts.blocks
  blocks_size = ap (λ (c : Counts). c.blocks) (sizes_are t l.readable.counted)

  own_is : get_or (rows t).functions f null_function ≡ own
  own_is = get_or-take t.counts.functions t.functions f null_function used

  pub function_is : function_at (view t) f ≡ function_view (rows t) own
  function_is = get_or-map (function_view (rows t)) (rows t).functions f null_function no_function (omega (arith, functions_size)) ∙ ap (function_view (rows t)) own_is

  pub function_fits : FunctionFits t.counts own
  function_fits = subst (FunctionFits t.counts) own_is (All-get_or (FunctionFits t.counts) (rows t).functions f null_function (omega (arith, functions_size)) l.functions)

  -- it has as many blocks as its run says
  pub blocks_counted : length (function_at (view t) f).blocks ≡ own.blocks.count
  blocks_counted =
      ap (λ (g : FunctionV). length g.blocks) function_is
      ∙ length-map (in_run (rows t).blocks own.blocks) (block_view (rows t))
      ∙ length_run own.blocks (rows t).blocks (omega (arith, function_fits.blocks, blocks_size))

  -- its k-th block
  module _ (k : ℕ) (inside : k < own.blocks.count) where
    pub block_used : block_number t f k < t.counts.blocks
    block_used = omega (arith, function_fits.blocks)

    block_is : get_or (rows t).blocks (block_number t f k) null_block ≡ block_of t f k
    block_is = get_or-take t.counts.blocks t.blocks (block_number t f k) null_block block_used

    pub block_legible : BlockLegible t.counts (rows t).numbers (block_of t f k)
    block_legible = subst (BlockLegible t.counts (rows t).numbers) block_is (All-get_or (BlockLegible t.counts (rows t).numbers) (rows t).blocks (block_number t f k) null_block (omega (arith, block_used, blocks_size)) l.blocks)

    pub list_seen : rows_at (view t) f k ≡ instructions_at (rows t) (in_run (rows t).numbers (block_of t f k).instructions)
    list_seen =
        ap (λ (g : FunctionV). block_rows g.blocks k) function_is
        ∙ block_rows_at (rows t) (in_run (rows t).blocks own.blocks) k null_block (covered own.blocks (rows t).blocks k inside (omega (arith, block_used, blocks_size)))
        ∙ ap (λ b. (block_view (rows t) b).rows) (getD_run own.blocks (rows t).blocks k null_block inside ∙ block_is)

    -- the list as the code reads it
    pub list_read : take ((block_of t f k).instructions.first + (block_of t f k).instructions.count - (block_of t f k).instructions.first) (drop (block_of t f k).instructions.first t.numbers) ≡ in_run (rows t).numbers (block_of t f k).instructions
    list_read = slice_run (block_of t f k).instructions t.counts.numbers t.numbers (omega (arith, l.readable.counted.numbers.in_table)) block_legible.instructions

    pub list_listed : AllByRecursion (λ n. n < t.counts.instructions) (in_run (rows t).numbers (block_of t f k).instructions)
    list_listed = block_legible.listed
