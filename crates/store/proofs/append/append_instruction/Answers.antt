use Rattle.hir.specs.Tables.{Tables, tables}
use Rattle.hir.proofs.Calls.{becomes}
use Rattle.hir.proofs.Laws.{view_instruction, well_instruction}
use Rattle.hir.proofs.Frames.{kept_instruction}
use Rattle.store.proofs.append.append_instruction.Goals as goal

pub returns-clause-does : goal.returns-clause-does
returns-clause-does c =
    let a = c.args in
    let t : Tables = tables a.store.now in
    let w = rw c.store.view_is at c.store.invariant in
    let e = rw c.store.view_is at c.write_instruction.ensures in
    becomes a.store.now c.write_instruction.new.store _ _ e.writes e.held
    (view_instruction t w a.instruction c.requires.room)
    (well_instruction t w a.instruction c.requires.room c.requires.fits)
    (kept_instruction t a.instruction)

pub invariant_of-store : goal.invariant_of-store
invariant_of-store c = (returns-clause-does c).well
