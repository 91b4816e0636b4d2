use Rattle.std.proofs.Common.{sym, ap, refl, ◌∙◌}
use Rattle.hir.specs.Tables.{tables}
use Rattle.sweep.specs.Marks.{with_marks}
use Rattle.sweep.proofs.Reading.{passed_kept, reads_are}
use Rattle.sweep.proofs.Steps.{joined}
use Rattle.sweep.proofs.mark.Marking.mark_row.Goals as goal

pub returns : goal.returns
returns c =
    let s = c.args.self.now in
    let t = tables s.function.store.now in
    joined refl refl
    (ap (with_marks s.marks.now) (sym (reads_are t s.function.legible.readable c.args.number c.requires c.row_places.result.now c.row_places.ensures.seen))
    ∙ passed_kept t s.function.legible.readable c.args.number c.requires s.marks.now c.if-not-keeps.ensures)
    c.mark_reads.ensures
