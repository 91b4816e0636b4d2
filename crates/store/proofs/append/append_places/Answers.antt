use Rattle.hir.specs.Tables.{Tables, tables}
use Rattle.hir.proofs.Calls.{becomes}
use Rattle.hir.proofs.Laws.{view_places, well_places}
use Rattle.hir.proofs.Frames.{kept_places}
use Rattle.store.proofs.append.append_places.Goals as goal

pub returns-clause-does : goal.returns-clause-does
returns-clause-does c =
    let t : Tables = tables c.args.store.now in
    let w = rw c.store.view_is at c.store.invariant in
    let e = rw c.store.view_is at c.write_places.ensures in
    becomes c.args.store.now c.write_places.new.store _ _ e.writes e.held
    (view_places t w c.args.places.now c.requires.room)
    (well_places t w c.args.places.now c.requires.room c.requires.fits)
    (kept_places t c.args.places.now c.requires.room.in_table)

pub invariant_of-store : goal.invariant_of-store
invariant_of-store c = (returns-clause-does c).well
