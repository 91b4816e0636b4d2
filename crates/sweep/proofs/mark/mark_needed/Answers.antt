use Rattle.std.proofs.Common.{◌≡◌, ℕ, List, sym, refl, ap, ◌∙◌, subst}
use Rattle.rules.specs.Views.{BlockV, function_at}
use Rattle.hir.specs.declared.rows.Store.{Store}
use Rattle.hir.specs.Tables.{tables}
use Rattle.hir.specs.View.{view}
use Rattle.reading.specs.declared.stored.StoredFunction.{StoredFunction}
use Rattle.reading.specs.Stored.{function_seen}
use Rattle.sweep.specs.Marks.{MarksNeeded}
use Rattle.sweep.proofs.Steps.{settles_start, settles_round, settles_end}
use Rattle.sweep.proofs.mark.mark_needed.Goals as goal

pub loop-marking-init : goal.loop-marking-init
loop-marking-init c = (settles_start c.requires.zero c.mark_terminals.ensures, record { function = refl; held = refl; marks = refl })

pub loop-marking-preserved : goal.loop-marking-preserved
loop-marking-preserved c =
    let e = c.mark_round.ensures in
    let b = c.loop-marking.invariant in
    (settles_round b.0 e, record { function = e.leaves.function ∙ b.1.function; held = e.leaves.held ∙ b.1.held; marks = refl })

-- the marks are the bytes that were lent
given_back : (bs : List BlockV) (y : List ℕ) {g h : ℕ} → MarksNeeded bs y → h ≡ g → (x : List ℕ) → (g ≡ h → x ≡ y) → MarksNeeded bs x
given_back bs y k e x same = subst (MarksNeeded bs) (sym (same (sym e))) k

pub returns : goal.returns
returns c =
    let e = c.mark_round.ensures.leaves in
    let b = c.loop-marking.invariant.1 in
    let now = c.mark_round.new.self in
    let held = e.held ∙ b.held ∙ c.mark_terminals.ensures.held in
    let blocks : (function_seen now.function).blocks ≡ (function_at (view (tables c.args.store.now)) c.args.function.0).blocks =
    ap (λ (g : StoredFunction). (function_seen g).blocks) (e.function ∙ b.function ∙ c.mark_terminals.ensures.function) ∙ ap (λ (s : Store). (function_at (view (tables s)) c.args.function.0).blocks) c.store.view_is in
    let needed = subst (λ (bs : List BlockV). MarksNeeded bs now.marks.now) blocks (settles_end c.loop-marking-test.false c.loop-marking.invariant.0 c.mark_round.ensures) in
    search (given_back (function_at (view (tables c.args.store.now)) c.args.function.0).blocks now.marks.now needed held)
