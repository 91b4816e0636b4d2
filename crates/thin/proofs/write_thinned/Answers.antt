use Rattle.std.proofs.Common.{ℕ, ◌<◌, Bool, List, get_or, sym, ap, ◌∙◌, subst, arith, rules}
use Rattle.std.specs.List.{AllByRecursion}
use Rattle.rules.specs.Views.{InstructionV}
use Rattle.hir.specs.declared.rows.Run.{Run}
use Rattle.hir.specs.Used.{in_run}
use Rattle.hir.specs.Tables.{Tables, tables, over_block}
use Rattle.hir.specs.View.{null_block}
use Rattle.hir.specs.Lists.{block_number, block_of, listing_run, with_thinned_list}
use Rattle.hir.proofs.Listed.{block_used, block_fits_at}
use Rattle.hir.proofs.Seen.{readable, legible, list_listed}
use Rattle.thin.specs.Kept.{kept_of, rewritten}
use Rattle.thin.proofs.Thinned.{list_whole}
use Rattle.thin.proofs.write_thinned.Goals as goal

pub overflow_add-at : goal.overflow_add-at
overflow_add-at g c =
    let u = block_used (tables c.args.store.now) c.requires.well c.args.function.0 c.args.k c.requires.has in
    omega (arith, u, c.requires.well.counted.blocks.in_limit)

pub bounds-store-at : goal.bounds-store-at
bounds-store-at g c =
    let u = block_used (tables c.args.store.now) c.requires.well c.args.function.0 c.args.k c.requires.has in
    omega (arith, u, c.requires.well.counted.blocks.in_table)

pub gather_kept-count-requires : goal.gather_kept-count-requires
gather_kept-count-requires g c =
    let t : Tables = tables c.args.store.now in
    let w = c.requires.well in
    let o = block_fits_at t w c.args.function.0 c.args.k c.requires.has in
    record {
      readable = readable t w;
      fits = omega (arith, o.instructions, w.counted.numbers.in_table);
      small = omega (arith, o.instructions, w.counted.numbers.in_limit);
      listed = subst (AllByRecursion (λ n. n < t.counts.instructions)) (list_whole (g.K.Keeps.test c.args.keep.now) t w c.args.function.0 c.args.k c.requires.has) (list_listed t (legible t w) c.args.function.0 c.requires.has.function c.args.k c.requires.has.block);
      ready = c.requires.ready;
    }

pub bounds-store-at-2 : goal.bounds-store-at-2
bounds-store-at-2 g c =
    let u = block_used (tables c.args.store.now) c.requires.well c.args.function.0 c.args.k c.requires.has in
    omega (arith, u, c.requires.well.counted.blocks.in_table, c.gather_kept-count.ensures.held.blocks_length)

pub returns : goal.returns
returns g c =
    let t : Tables = tables c.args.store.now in
    let p : InstructionV → Bool = g.K.Keeps.test c.args.keep.now in
    let n : ℕ = block_number t c.args.function.0 c.args.k in
    let run : Run = (block_of t c.args.function.0 c.args.k).instructions in
    let e = c.gather_kept-count.ensures in
    let over : Tables → ℕ → Tables = λ u m. over_block u n (listing_run (get_or u.blocks n null_block) (record { first = (get_or u.blocks n null_block).instructions.first; count = m })) in
    record {
      writes = ap (λ (u : Tables). over u c.gather_kept-count.result) e.writes
          ∙ ap (over (rewritten t run.first (kept_of p t (in_run t.numbers run)))) e.count
          ∙ ap (λ (l : List ℕ). with_thinned_list t c.args.function.0 c.args.k (kept_of p t l)) (sym (list_whole p t c.requires.well c.args.function.0 c.args.k c.requires.has));
      held = search rules;
    }
