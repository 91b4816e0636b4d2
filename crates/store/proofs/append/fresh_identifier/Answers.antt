use Rattle.hir.specs.Tables.{Tables, tables}
use Rattle.hir.proofs.Calls.{becomes}
use Rattle.hir.proofs.Laws.{fresh_row, view_fresh, well_identifier}
use Rattle.hir.proofs.Frames.{kept_identifier}
use Rattle.store.proofs.append.fresh_identifier.Goals as goal

pub returns-clause-does : goal.returns-clause-does
returns-clause-does c =
    let a = c.args in
    let t : Tables = tables a.store.now in
    let w = rw c.store.view_is at c.store.invariant in
    let e = rw c.store.view_is at c.write_identifier.ensures in
    becomes a.store.now c.write_identifier.new.store _ _ e.writes e.held
    (view_fresh t w a.name c.requires.room)
    (well_identifier t w (fresh_row t w a.name c.requires.room) c.requires.room c.requires.fits)
    (kept_identifier t (fresh_row t w a.name c.requires.room))

pub invariant_of-store : goal.invariant_of-store
invariant_of-store c = (returns-clause-does c).well
