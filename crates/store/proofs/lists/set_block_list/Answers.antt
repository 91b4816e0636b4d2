use Rattle.hir.specs.Tables.{Tables, tables}
use Rattle.hir.proofs.Calls.{becomes}
use Rattle.std.proofs.Common.{arith}
use Rattle.hir.proofs.Listed.{block_used, view_new_list, well_new_list, kept_new_list}
use Rattle.store.proofs.lists.set_block_list.Goals as goal

pub write_list-requires : goal.write_list-requires
write_list-requires c =
    let a = c.args in
    let w = rw c.store.view_is at c.store.invariant in
    let u = block_used (tables a.store.now) w a.function.0 a.k c.requires.has in
    rw c.store.view_is (record {
      function = omega (arith, c.requires.has.function, w.counted.functions.in_table);
      in_table = omega (arith, u, w.counted.blocks.in_table);
      in_limit = omega (arith, u, w.counted.blocks.in_limit);
      room = c.requires.room;
    })

pub returns : goal.returns
returns c =
    let a = c.args in
    let t : Tables = tables a.store.now in
    let w = rw c.store.view_is at c.store.invariant in
    let e = rw c.store.view_is at c.write_list.ensures in
    record {
      does = becomes a.store.now c.write_list.new.store _ _ e.writes e.held
          (view_new_list t w a.function.0 a.k c.requires.has a.list.now c.requires.room)
          (well_new_list t w a.function.0 a.k c.requires.has a.list.now c.requires.room c.requires.fits c.requires.unlisted)
          (kept_new_list t w a.function.0 a.k c.requires.has a.list.now c.requires.room);
    }

pub invariant_of-store : goal.invariant_of-store
invariant_of-store c = (returns c).does.well
