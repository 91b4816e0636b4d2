use Rattle.std.proofs.Common.{◌-◌, ◌<◌, ◌∷◌, [], ℕ, sym, ap, ◌∙◌, subst, arith, rules, tests}
use Rattle.std.specs.List.{AllByRecursion}
use Rattle.std.specs.Iterator.Adapters.{rev_source}
use Rattle.std.specs.Slice.Iter.{iter_rest}
use Rattle.std.proofs.lemmas.Bool.{both_ways}
use Rattle.rules.specs.Lists.{backwards}
use Rattle.rules.specs.Views.{InstructionV, FunctionV, block_rows}
use Rattle.rules.specs.Drawn.{inner}
use Rattle.hir.specs.Tables.{tables}
use Rattle.hir.specs.View.{instruction_at, rows, view}
use Rattle.reading.specs.Stored.{function_seen, rows_in}
use Rattle.inner_walk.specs.Passing.{AllWalkable, AllWalked}
use Rattle.inner_walk.proofs.Going.{all_left, none_left, block_walked, block_refused, none_named, named_walked, named_refused, itself, ended, not_begun}
use Rattle.inner_walk.proofs.+walk.Goals as goal
use Rattle.inner_walk.proofs.+walk.Goals.{walk-then-row-via-then-row, walk-then-row-via-else-row+then-reached-number-ne0}

pub walk-returns-then-row : goal.walk-returns-then-row
walk-returns-then-row m c =
    let f = c.args.function.id.0 in
    let i = itself (view (tables c.args.function.store.now)) f c.args.depth (omega arith) in
    elim c.then-row.branch [
      | walk-then-row-via-then-row w ↦ λ a. both_ways c.row-row.result.appended (ap (λ (g : FunctionV). g.appended) c.row-row.ensures.seen ∙ a.able.own f i) w.if-row.true
      | walk-then-row-via-else-row+then-reached-number-ne0 w ↦ λ a. w.if-reached-number-ne0.true (a.able.free f i)
    ]

pub walk-returns-then-not-walk_rows : goal.walk-returns-then-not-walk_rows
walk-returns-then-not-walk_rows m c =
    let g = c.args.function in
    let h = view (tables g.store.now) in
    let d = c.args.depth - 1 in
    let bs = (function_seen g).blocks in
    let n : AllWalkable d h (inner (backwards (block_rows bs c.loop-k.k))) c.loop-k.reached → ⊥ = search rules in
    not_begun h g.id.0 c.args.depth _ (omega arith) (omega arith) (ap (λ (v : FunctionV). v.appended) (sym c.row-row.ensures.seen) ∙ c.if-row.false) c.if-reached-number-ne0.false (block_refused d h bs c.loop-k.k _ _ c.loop-k.invariant (omega arith) n)

pub walk-loop-k-preserved : goal.walk-loop-k-preserved
walk-loop-k-preserved m c =
    let h = view (tables c.args.function.store.now) in
    let d = c.args.depth - 1 in
    let bs = (function_seen c.args.function).blocks in
    let w : AllWalked d h (inner (backwards (block_rows bs c.loop-k.k))) c.loop-k.reached c.walk_rows.new.reached = search rules in
    block_walked d h bs c.loop-k.k _ _ c.loop-k.invariant (omega arith) _ w

pub walk-returns : goal.walk-returns
walk-returns m c =
    let g = c.args.function in
    let h = view (tables g.store.now) in
    ended h g.id.0 c.args.depth _ (omega arith) (omega arith) (ap (λ (v : FunctionV). v.appended) (sym c.row-row.ensures.seen) ∙ c.if-row.false) c.if-reached-number-ne0.false _ (none_left (c.args.depth - 1) h (function_seen g).blocks c.loop-k.k _ _ c.loop-k.invariant (omega arith))

pub walk_rows-returns-then-not-walk : goal.walk_rows-returns-then-not-walk
walk_rows-returns-then-not-walk m c =
    let t = tables c.args.list.store.now in
    named_refused (instruction_at (rows t)) c.args.depth (view t) (inner (backwards (rows_in c.args.list))) _ _ _ _ _ c.in-Some.ensures.steps c.loop-number.invariant.1 c.row-row.result.function.0 (search (rules, tests)) (ap (λ (i : InstructionV). i.function) c.row-row.ensures.seen) c.if-not-walk.ensures

pub walk_rows-loop-number-preserved-else-not-walk : goal.walk_rows-loop-number-preserved-else-not-walk
walk_rows-loop-number-preserved-else-not-walk m c =
    let t = tables c.args.list.store.now in
    let used = λ (n : ℕ). n < t.counts.instructions in (
      all_left used (iter_rest (rev_source c.next.new.self)) (c.in-Some.number.now ∷ []) (subst (AllByRecursion used) c.in-Some.ensures.steps c.loop-number.invariant.0),
      named_walked (instruction_at (rows t)) c.args.depth (view t) (inner (backwards (rows_in c.args.list))) _ _ _ _ _ c.in-Some.ensures.steps c.loop-number.invariant.1 c.row-row.result.function.0 (search (rules, tests)) (ap (λ (i : InstructionV). i.function) c.row-row.ensures.seen) c.walk.new.reached c.if-not-walk.ensures,
    )

pub walk_rows-loop-number-preserved : goal.walk_rows-loop-number-preserved
walk_rows-loop-number-preserved m c =
    let t = tables c.args.list.store.now in
    let used = λ (n : ℕ). n < t.counts.instructions in (
      all_left used (iter_rest (rev_source c.next.new.self)) (c.in-Some.number.now ∷ []) (subst (AllByRecursion used) c.in-Some.ensures.steps c.loop-number.invariant.0),
      none_named (instruction_at (rows t)) c.args.depth (view t) (inner (backwards (rows_in c.args.list))) _ _ _ _ _ c.in-Some.ensures.steps c.loop-number.invariant.1 (search (rules, tests)),
    )
