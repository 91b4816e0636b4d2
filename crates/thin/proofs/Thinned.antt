-- A block's list without some of its rows: the store it makes.
use Rattle.std.proofs.Common.{◌≡◌, ℕ, ◌<◌, ◌≤◌, Bool, List, length, get_or, sym, ap, ◌∙◌, subst, arith}
use Rattle.rules.specs.Lists.{select}
use Rattle.rules.specs.Views.{InstructionV, with_list, rows_at}
use Rattle.hir.specs.declared.rows.Run.{Run}
use Rattle.hir.specs.declared.rows.Counts.{Counts}
use Rattle.hir.specs.declared.rows.BasicBlock.{BasicBlock}
use Rattle.hir.specs.Used.{in_run}
use Rattle.hir.specs.Tables.{Tables}
use Rattle.hir.specs.View.{rows, null_block, instruction_at, view}
use Rattle.hir.specs.WellFormed.{Unlike, WellFormed}
use Rattle.hir.specs.Lists.{block_number, block_of, with_thinned_list, HasBlock, ListFits, UnlistedBut}
use Rattle.hir.specs.Frame.{Kept}
use Rattle.hir.proofs.Runs.{run_used, length_run}
use Rattle.hir.proofs.Growth.{sizes_are}
use Rattle.hir.proofs.Listed.{numbers_sized, block_used, block_is, block_fits_at, view_thinned, well_thinned, kept_thinned}
use Rattle.hir.proofs.Seen.{legible, list_seen, list_listed}
use Rattle.thin.specs.Kept.{kept_numbers}
use Rattle.thin.proofs.Front.{length_select, all_select, unlike_select, once_select, map_select}

module _ (test : InstructionV → Bool) (t : Tables) (w : WellFormed t) (f k : ℕ) (has : HasBlock t f k) where
  abbrev run : Run
  run = (block_of t f k).instructions

  abbrev list : List ℕ
  list = in_run (rows t).numbers run

  abbrev p : ℕ → Bool
  p n = test (instruction_at (rows t) n)

  -- the list is the same in the whole table
  pub list_whole : list ≡ in_run t.numbers run
  list_whole = run_used run t.counts.numbers t.numbers (omega (arith, numbers_sized t w f k has, (block_fits_at t w f k has).instructions))

  pub thinned_short : length (kept_numbers test t f k) ≤ run.count
  thinned_short = let l = length_select p list in let m = length_run run (rows t).numbers (omega (arith, numbers_sized t w f k has, (block_fits_at t w f k has).instructions)) in omega arith

  thinned_fits : ListFits t (kept_numbers test t f k)
  thinned_fits = record { listed = all_select p (λ n. n < t.counts.instructions) list (list_listed t (legible t w) f has.function k has.block); once = once_select p list (block_fits_at t w f k has).once }

  thinned_unlisted : UnlistedBut t (block_number t f k) (kept_numbers test t f k)
  thinned_unlisted i h ne =
      let u = block_used t w f k has in
      let size = ap (λ (c : Counts). c.blocks) (sizes_are t w.counted) in
      let a = w.sound.blocks_apart i (block_number t f k) null_block (omega (arith, size)) (omega (arith, size, u)) ne in
      unlike_select p (in_run (rows t).numbers (get_or t.blocks i null_block).instructions) list
      (subst (λ (b : BasicBlock). Unlike (in_run (rows t).numbers b.instructions) list) (block_is t w f k has i h)
      (subst (λ (b : BasicBlock). Unlike (in_run (rows t).numbers (get_or (rows t).blocks i null_block).instructions) (in_run (rows t).numbers b.instructions)) (block_is t w f k has (block_number t f k) u) a.rows))

  pub thinned_seen : view (with_thinned_list t f k (kept_numbers test t f k)) ≡ with_list (view t) f k (select test (rows_at (view t) f k))
  thinned_seen = view_thinned t w f k has (kept_numbers test t f k) thinned_short ∙ ap (with_list (view t) f k) (map_select (instruction_at (rows t)) test list ∙ ap (select test) (sym (list_seen t (legible t w) f has.function k has.block)))

  pub thinned_well : WellFormed (with_thinned_list t f k (kept_numbers test t f k))
  thinned_well = well_thinned t w f k has (kept_numbers test t f k) thinned_short thinned_fits thinned_unlisted

  pub thinned_kept : Kept t (with_thinned_list t f k (kept_numbers test t f k))
  thinned_kept = kept_thinned t w f k has (kept_numbers test t f k) thinned_short
