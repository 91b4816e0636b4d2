use Rattle.std.proofs.Common.{ℕ, List, get_or, take, sym, ap, ◌∙◌}
use Rattle.std.proofs.lemmas.List.{take_more}
use Rattle.hir.specs.declared.rows.Place.{Place}
use Rattle.hir.specs.View.{null_place}
use Rattle.sweep.specs.Marks.{ids, with_mark, with_marks}
use Rattle.sweep.proofs.Marking.{all_more}
use Rattle.sweep.proofs.Steps.{leaves_then}
use Rattle.sweep.proofs.mark.Marking.mark_terminal.Goals as goal

pub loop-place-preserved : goal.loop-place-preserved
loop-place-preserved c =
    let ps : List Place = c.terminal_places-place-items.result.now in
    let i : ℕ = c.loop-place.place-index in
    let p : Place = get_or ps i null_place in
    let marks : List ℕ = c.args.self.now.marks.now in
    leaves_then (λ f ms. with_mark ms p.identifier.0) c.loop-place.invariant c.mark.ensures.leaves
    (sym (all_more marks (take i ps) p) ∙ sym (ap (λ l. with_marks marks (ids l)) (take_more ps i null_place c.loop-place-test.true)))
