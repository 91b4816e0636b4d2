use Rattle.std.proofs.Common.{◌≡◌, ℕ, ◌<◌, get_or, refl, ap, subst, arith}
use Rattle.hir.specs.declared.rows.Store.{Store}
use Rattle.hir.specs.Tables.{Tables, tables}
use Rattle.hir.specs.View.{null_function}
use Rattle.hir.proofs.Frames.{held_then}
use Rattle.dead_code_elimination.proofs.Same.{held_same}
use Rattle.sweep.proofs.Progress.{Progress, start, has, wide_u, step, all_done}
use Rattle.sweep.proofs.thin_lists.thin_lists.Goals as goal

blocks_of : {s t : Store} → s ≡ t → (f : ℕ) → (get_or s.functions.now f null_function).blocks.count ≡ (get_or t.functions.now f null_function).blocks.count
blocks_of e f = ap (λ (s : Store). (get_or s.functions.now f null_function).blocks.count) e

pub loop-k-init : goal.loop-k-init
loop-k-init c =
    let w = rw c.store.view_is at c.store.invariant in
    (start (tables c.args.store.now) w c.args.function.0 c.requires.used c.args.marks.now c.requires.wide, held_same c.args.store.now)

pub thin_block_list-requires : goal.thin_block_list-requires
thin_block_list-requires c =
    let t : Tables = tables c.args.store.now in
    let u : Tables = tables c.loop-k.store in
    let w = rw c.store.view_is at c.store.invariant in
    let inside : c.loop-k.k < (get_or (tables c.args.store.now).functions c.args.function.0 null_function).blocks.count = omega (arith, blocks_of c.store.view_is c.args.function.0) in
    record {
      has = has t w c.args.function.0 c.requires.used c.args.marks.now c.requires.wide c.loop-k.k inside u c.loop-k.invariant.0;
      ready = wide_u t w c.args.function.0 c.requires.used c.args.marks.now c.requires.wide c.loop-k.k inside u c.loop-k.invariant.0;
    }

pub loop-k-preserved : goal.loop-k-preserved
loop-k-preserved c =
    let t : Tables = tables c.args.store.now in
    let w = rw c.store.view_is at c.store.invariant in
    let inside : c.loop-k.k < (get_or (tables c.args.store.now).functions c.args.function.0 null_function).blocks.count = omega (arith, blocks_of c.store.view_is c.args.function.0) in
    let d = c.thin_block_list.ensures.does in (
      step t w c.args.function.0 c.requires.used c.args.marks.now c.requires.wide c.loop-k.k inside (tables c.loop-k.store) c.loop-k.invariant.0 c.loop-k.store c.thin_block_list.new.store refl d,
      held_then d.held c.loop-k.invariant.1,
    )

pub returns : goal.returns
returns c =
    let t : Tables = tables c.args.store.now in
    let w = rw c.store.view_is at c.store.invariant in
    let end : c.loop-k.k ≡ (get_or t.functions c.args.function.0 null_function).blocks.count = omega (arith, blocks_of c.store.view_is c.args.function.0) in
    all_done c.args.store.now c.loop-k.store w c.args.function.0 c.requires.used c.args.marks.now c.requires.wide
    (subst (λ k. Progress t c.args.marks.now c.args.function.0 k (tables c.loop-k.store)) end c.loop-k.invariant.0) c.loop-k.invariant.1
