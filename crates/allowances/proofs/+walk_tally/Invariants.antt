use Rattle.std.proofs.Common.{◌+◌, ◌-◌, ◌*◌, drop}
use Rattle.rules.specs.Drawn.{inner, inner_of}
use Rattle.laws.specs.Allowances.{walk_counts}
use Rattle.hir.specs.Tables.{tables}
use Rattle.hir.specs.View.{instructions_at, rows, view}
use Rattle.reading.specs.Stored.{function_seen, rows_in}
use Rattle.allowances.specs.Tallies.{walks_counts}
use Rattle.allowances.proofs.Sums.{Summing}
use Rattle.allowances.proofs.+walk_tally.Given as goal

-- inner_tally calls walk_tally at its own depth, and walk_tally calls inner_tally one level down
abbrev pub decreases-walk_tally : goal.decreases-walk_tally
decreases-walk_tally l = 2 * l.depth

abbrev pub decreases-inner_tally : goal.decreases-inner_tally
decreases-inner_tally l = 2 * l.depth + 1

abbrev pub invariant-inner_tally-loop-number : goal.invariant-inner_tally-loop-number
invariant-inner_tally-loop-number l =
    let h = view (tables l.list.store.now) in
    Summing (walks_counts l.depth h (inner (rows_in l.list))) (walks_counts l.depth h (inner (instructions_at (rows (tables l.list.store.now)) (drop l.number-index l.list.numbers.now)))) l.sum

abbrev pub invariant-walk_tally-loop-k : goal.invariant-walk_tally-loop-k
invariant-walk_tally-loop-k l =
    let h = view (tables l.function.store.now) in
    Summing (walk_counts l.depth h l.function.id.0) (walks_counts (l.depth - 1) h (inner_of (drop l.k (function_seen l.function).blocks))) l.sum
