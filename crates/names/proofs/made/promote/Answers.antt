use Rattle.std.proofs.Common.{Some, get_or, refl, ◌∙◌, rules}
use Rattle.hir.specs.declared.rows.IdentifierName.TheVariants.{Promoted}
use Rattle.hir.specs.Tables.{Tables, tables, over_identifier}
use Rattle.hir.specs.View.{null_identifier}
use Rattle.names.proofs.Naming.{promotes, promoted_now, promoted_before}
use Rattle.names.proofs.made.promote.Goals as goal

pub returns-then-is_none : goal.returns-then-is_none
returns-then-is_none c =
    let s = c.args.store.now in
    let x = c.args.id.0 in
    let r = c.requires in
    let w = rw c.store.view_is at c.store.invariant in
    let e = rw c.store.view_is at c.append_numbered-name.ensures in
    let none = rw c.store.view_is at c.if-is_none.ensures in
    let held = e.does.held in
    let writes = (λ k. let u : Tables = e.does.writes k in over_identifier u x (record { declaration = (get_or u.identifiers x null_identifier).declaration; name = Some (Promoted (e.at k)) }))
    ∙ promoted_now (tables s) w x r.used r.room none in
    rw c.store-then-is_none.view_is (record { does = promotes (tables s) w x r.used r.room s _ refl writes (search rules) })

pub returns-else-is_none : goal.returns-else-is_none
returns-else-is_none c =
    let s = c.args.store.now in
    let x = c.args.id.0 in
    let r = c.requires in
    let w = rw c.store.view_is at c.store.invariant in
    let some = rw c.store.view_is at c.if-is_none.ensures in
    record { does = promotes (tables s) w x r.used r.room s s refl (promoted_before (tables s) w x r.used r.room some) (search rules) }

pub invariant_of-store : goal.invariant_of-store
invariant_of-store c = (returns-then-is_none c).does.well
