use Rattle.std.proofs.Common.{Bool}
use Rattle.rules.specs.Views.{InstructionV}
use Rattle.hir.specs.Tables.{Tables, tables}
use Rattle.hir.proofs.Calls.{becomes}
use Rattle.thin.proofs.Thinned.{thinned_seen, thinned_well, thinned_kept}
use Rattle.thin.proofs.thin_block_list.Goals as goal

pub returns : goal.returns
returns g c =
    let a = c.args in
    let t : Tables = tables a.store.now in
    let p : InstructionV → Bool = g.K.Keeps.test a.keep.now in
    let w = rw c.store.view_is at c.store.invariant in
    let e = rw c.store.view_is at c.write_thinned.ensures in
    record {
      does = becomes a.store.now c.write_thinned.new.store _ _ e.writes e.held
          (thinned_seen p t w a.function.0 a.k c.requires.has)
          (thinned_well p t w a.function.0 a.k c.requires.has)
          (thinned_kept p t w a.function.0 a.k c.requires.has);
    }

pub invariant_of-store : goal.invariant_of-store
invariant_of-store g c = (returns g c).does.well
