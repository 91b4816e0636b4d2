use Rattle.std.proofs.Common.{length, sym, ◌∙◌}
use Rattle.std.proofs.lemmas.Bool.{true≢false}
use Rattle.hir.specs.Tables.{tables}
use Rattle.hir.specs.View.{rows, null_function}
use Rattle.refusals.proofs.Tests.{when_like}
use Rattle.listed_once.proofs.Apart.{together, then_lists, then_named, then_once, lists_fit, all_numbers}
use Rattle.listed_once.proofs.rows_apart.Goals as goal
use Rattle.listed_once.proofs.rows_apart.Goals.{then-lists_apart, else-lists_apart, then-functions_apart, else-functions_apart}

pub returns-then-lists_named : goal.returns-then-lists_named
returns-then-lists_named c =
    let t = tables c.args.store.now in
    elim c.if-functions_apart.branch [
      | then-functions_apart w ↦ elim c.if-lists_apart.branch [
        | then-lists_apart v ↦ when_like c.rows_once.result
            (λ h. together t.counts (rows t) (record {
              lists = v.if-lists_apart.ensures;
              functions = rw (sym v.value-is ∙ w.if-functions_apart.true) at v.functions_apart.ensures;
              named = rw (sym w.value-is ∙ c.if-lists_named.true) at w.lists_named.ensures;
              once = h;
            }))
            (λ h. then_once t.counts (rows t) (lists_fit t (length (rows t).numbers) c.requires.formed (all_numbers t c.requires.counted)) h)
            c.rows_once.ensures
        | else-lists_apart v ↦ absurd (true≢false (sym w.if-functions_apart.true ∙ v.value-is ∙ v.if-lists_apart.false))
      ]
      | else-functions_apart w ↦ absurd (true≢false (sym c.if-lists_named.true ∙ w.value-is ∙ w.if-functions_apart.false))
    ]

pub returns-else-lists_named : goal.returns-else-lists_named
returns-else-lists_named c = rw c.if-lists_named.false (λ h.
    let t = tables c.args.store.now in
    elim c.if-functions_apart.branch [
      | then-functions_apart w ↦ (rw (sym w.value-is ∙ c.if-lists_named.false) at w.lists_named.ensures) (then_named t.counts (rows t) h)
      | else-functions_apart w ↦ elim c.if-lists_apart.branch [
        | then-lists_apart v ↦ (rw (sym v.value-is ∙ w.if-functions_apart.false) at v.functions_apart.ensures) (λ a b. h.functions a b null_function)
        | else-lists_apart v ↦ v.if-lists_apart.ensures (then_lists t.counts (rows t) h)
      ]
    ])
