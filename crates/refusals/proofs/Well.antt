-- A store whose counts and form were checked is well formed.
use Rattle.std.proofs.Common.{ℕ, ◌<◌, ◌≢◌, length, get_or}
use Rattle.std.specs.List.{AllByRecursion}
use Rattle.std.proofs.ByRecursion.{All-get_or, All-from_get_or, All-weaker}
use Rattle.hir.specs.declared.rows.Counts.{Counts}
use Rattle.hir.specs.declared.rows.BasicBlock.{BasicBlock}
use Rattle.hir.specs.Tables.{Tables}
use Rattle.hir.specs.Used.{in_run}
use Rattle.hir.specs.View.{Rows, rows, null_block}
use Rattle.hir.specs.WellFormed.{PlaceFits, InstructionFits, BlockFits, FunctionFits, Clear, Pairwise, Sound, Counted, WellFormed}
use Rattle.refusals.specs.Form.{PlaceFormed, InstructionFormed, BlockFormed, FunctionFormed, RowsFormed, RowsApart, InForm}

block_fits : (c : Counts) (r : Rows) → RowsFormed c r → RowsApart c r → (b : ℕ) → b < length r.blocks → BlockFits c r.numbers (get_or r.blocks b null_block)
block_fits c r f a b h =
    let g = All-get_or (BlockFormed c r.places) r.blocks b null_block h f.blocks in
    record {
      places = g.places.fits;
      instructions = g.instructions;
      preds = g.preds;
      listed = All-get_or (λ (x : BasicBlock). AllByRecursion (λ n. n < c.instructions) (in_run r.numbers x.instructions)) r.blocks b null_block h a.listed;
      named = All-get_or (λ (x : BasicBlock). AllByRecursion (λ n. n < c.blocks) (in_run r.numbers x.preds)) r.blocks b null_block h a.preds;
      once = All-get_or (λ (x : BasicBlock). Pairwise ◌≢◌ (in_run r.numbers x.instructions)) r.blocks b null_block h a.once;
      own = All-get_or (λ (x : BasicBlock). Clear x.instructions x.preds) r.blocks b null_block h a.own;
    }

pub in_form_sound : (c : Counts) (r : Rows) → RowsFormed c r → RowsApart c r → Sound c r
in_form_sound c r f a = record {
  identifiers = f.identifiers;
  places = All-weaker (PlaceFormed c) (PlaceFits c) (λ p h. h.fits) r.places f.places;
  instructions = All-weaker (InstructionFormed c r.places) (InstructionFits c) (λ x h. record { result = h.result.formed.fits; name = h.name; function = h.inner.inner; places = h.places }) r.instructions f.instructions;
  blocks = All-from_get_or (BlockFits c r.numbers) r.blocks null_block (block_fits c r f a);
  functions = All-weaker (FunctionFormed c r.places) (FunctionFits c) (λ x h. record { blocks = h.blocks; params = h.params.fits; context = h.context.fits; returns = h.returns.formed.fits; tag = h.tag }) r.functions f.functions;
  blocks_apart = a.blocks;
  functions_apart = a.functions;
}

pub well_formed : (t : Tables) → Counted t → InForm t → WellFormed t
well_formed t c i = record { counted = c; sound = in_form_sound t.counts (rows t) i.formed i.apart }
