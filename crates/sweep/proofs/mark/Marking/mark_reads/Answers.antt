use Rattle.std.proofs.Common.{ℕ, List, get_or, take, sym, refl, ap, ◌∙◌}
use Rattle.std.proofs.lemmas.List.{take_more}
use Rattle.hir.specs.declared.rows.Place.{Place}
use Rattle.hir.specs.View.{null_place}
use Rattle.sweep.specs.Marks.{ids_read, with_mark, with_marks}
use Rattle.sweep.proofs.Marking.{reads_more, reads_same}
use Rattle.sweep.proofs.Steps.{marked_then, joined}
use Rattle.sweep.proofs.mark.Marking.mark_reads.Goals as goal
use Rattle.sweep.proofs.mark.Marking.mark_reads.Goals.{then-is_read, else-is_read}

pub loop-place-preserved : goal.loop-place-preserved
loop-place-preserved c =
    let ps : List Place = c.args.places.now in
    let i : ℕ = c.loop-place.place-index in
    let p : Place = get_or ps i null_place in
    let marks : List ℕ = c.args.self.now.marks.now in
    let more = ap (λ l. with_marks marks (ids_read l)) (take_more ps i null_place c.loop-place-test.true) in
    elim c.if-is_read.branch [
      | then-is_read w ↦
          let e = reads_more marks (take i ps) p (sym c.is_read.ensures ∙ w.if-is_read.true) in
          joined w.self-is w.new-is refl (marked_then (λ f ms. with_mark ms p.identifier.0) c.loop-place.invariant w.mark-new.ensures (sym e ∙ sym more))
      | else-is_read w ↦
          let e = reads_same marks (take i ps) p (sym c.is_read.ensures ∙ w.if-is_read.false) in
          joined w.self-is w.new-is (sym e ∙ sym more) c.loop-place.invariant
    ]
