use Rattle.std.proofs.Common.{ap, ◌∙◌}
use Rattle.hir.specs.declared.rows.HirFunction.{HirFunction}
use Rattle.hir.specs.Tables.{Tables, tables, with_function}
use Rattle.hir.specs.Tags.{with_tag_name}
use Rattle.hir.proofs.Calls.{becomes}
use Rattle.hir.proofs.Laws.{view_function, well_function}
use Rattle.hir.proofs.Frames.{kept_function}
use Rattle.store.proofs.append.append_function.Goals as goal

pub returns-clause-does : goal.returns-clause-does
returns-clause-does c =
    let a = c.args in
    let t : Tables = tables a.store.now in
    let f : HirFunction = with_tag_name a.function a.tag.name in
    let w = rw c.store.view_is at c.store.invariant in
    let e = rw c.store.view_is at c.write_function.ensures in
    becomes a.store.now c.write_function.new.store _ _ (e.writes ∙ ap (with_function t) c.put_on-borne.ensures.borne) e.held
    (view_function t w f c.requires.room)
    (well_function t w f c.requires.room c.requires.fits)
    (kept_function t f)

pub invariant_of-store : goal.invariant_of-store
invariant_of-store c = (returns-clause-does c).well
