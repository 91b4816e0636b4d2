use Rattle.hir.specs.Tables.{Tables, tables}
use Rattle.hir.proofs.Calls.{becomes}
use Rattle.hir.proofs.Laws.{view_numbers, well_numbers}
use Rattle.hir.proofs.Frames.{kept_numbers}
use Rattle.store.proofs.append.append_numbers.Goals as goal

pub returns-clause-does : goal.returns-clause-does
returns-clause-does c =
    let a = c.args in
    let t : Tables = tables a.store.now in
    let w = rw c.store.view_is at c.store.invariant in
    let e = rw c.store.view_is at c.write_numbers.ensures in
    becomes a.store.now c.write_numbers.new.store _ _ e.writes e.held
    (view_numbers t w a.numbers.now c.requires.room)
    (well_numbers t w a.numbers.now c.requires.room)
    (kept_numbers t a.numbers.now c.requires.room.in_table)

pub invariant_of-store : goal.invariant_of-store
invariant_of-store c = (returns-clause-does c).well
