use Rattle.std.proofs.Common.{rules}
use Rattle.hir.specs.Tables.{tables}
use Rattle.hir.specs.View.{instruction_at, rows}
use Rattle.refusals.proofs.Chains.{called_at_each}
use Rattle.refusals.proofs.Tests.{when_like, all_tells}
use Rattle.block_order.proofs.Pairs.{pairs, YieldsList-from_pairs, BothUsed, pairs_used, After, rising_from, rising_to}
use Rattle.block_order.proofs.orders_rise.Goals as goal

pub all-requires-clause-callable : goal.all-requires-clause-callable
all-requires-clause-callable c =
    let l = c.args.list in
    let n = l.store.now.counts.instructions in
    called_at_each (BothUsed n) (pairs l.numbers.now) (pairs_used n l.numbers.now l.listed) (YieldsList-from_pairs l.numbers.now c.windows.result (cc) (cc)) (λ x q h. search rules) (λ x u. search rules)

pub returns : goal.returns
returns c =
    let numbers = c.args.list.numbers.now in
    let f = instruction_at (rows (tables c.args.list.store.now)) in
    when_like c.all.result (rising_from f numbers) (rising_to f numbers) (all_tells (pairs numbers) (After f) _ _ c.all.result c.all.ensures.ran (YieldsList-from_pairs numbers c.windows.result (cc) (cc)) (λ x b q h. search rules))
