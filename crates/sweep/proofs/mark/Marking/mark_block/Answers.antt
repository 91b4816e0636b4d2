use Rattle.std.proofs.Common.{ℕ, List, map, reverse, sym, refl, ap, ◌∙◌}
use Rattle.std.proofs.lemmas.List.{reverse-reverse}
use Rattle.std.proofs.lemmas.Iterator.Adapters.{YieldsList-from_rev_slice}
use Rattle.std.proofs.lemmas.Iterator.Consumers.{YieldsList-end}
use Rattle.hir.specs.declared.rows.Store.{Store}
use Rattle.hir.specs.Tables.{tables}
use Rattle.hir.specs.View.{instruction_at, rows}
use Rattle.sweep.specs.Marks.{all_passed}
use Rattle.sweep.proofs.Steps.{joined}
use Rattle.sweep.proofs.mark.Marking.mark_block.Goals as goal

pub returns : goal.returns
returns c =
    let marks : List ℕ = c.args.self.now.marks.now in
    let list : List ℕ = c.list.result.numbers.now in
    let g = instruction_at (rows (tables c.args.self.now.function.store.now)) in
    let all = YieldsList-end (YieldsList-from_rev_slice list cc) c.loop-number.yielded _ c.loop-number.yielded_by _ _ c.in-None.is c.next.ensures.steps in
    joined refl refl (ap (λ l. all_passed marks (map g (reverse l))) all.0 ∙ ap (λ l. all_passed marks (map g l)) (reverse-reverse list) ∙ ap (all_passed marks) (ap (λ (s : Store). map (instruction_at (rows (tables s))) list) (sym (ap (λ s. s.now) c.list.ensures.store)) ∙ c.list.ensures.seen)) c.loop-number.invariant
