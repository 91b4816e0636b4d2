use Rattle.hir.specs.Tables.{Tables, tables}
use Rattle.hir.proofs.Calls.{becomes}
use Rattle.hir.proofs.Listed.{view_listed_block, well_listed_block, kept_listed_block}
use Rattle.store.proofs.lists.append_block.Goals as goal

pub returns-clause-does : goal.returns-clause-does
returns-clause-does c =
    let a = c.args in
    let t : Tables = tables a.store.now in
    let w = rw c.store.view_is at c.store.invariant in
    let e = rw c.store.view_is at c.write_block.ensures in
    becomes a.store.now c.write_block.new.store _ _ e.writes e.held
    (view_listed_block t w a.block a.list.now c.requires.numbers c.requires.blocks c.requires.fits)
    (well_listed_block t w a.block a.list.now c.requires.numbers c.requires.blocks c.requires.fits)
    (kept_listed_block t w a.block a.list.now c.requires.numbers c.requires.blocks c.requires.fits)

pub invariant_of-store : goal.invariant_of-store
invariant_of-store c = (returns-clause-does c).well
