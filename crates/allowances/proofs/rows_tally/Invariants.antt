use Rattle.std.proofs.Common.{drop}
use Rattle.laws.specs.Allowances.{rows_counts}
use Rattle.hir.specs.Tables.{tables}
use Rattle.hir.specs.View.{instructions_at, rows}
use Rattle.reading.specs.Stored.{rows_in}
use Rattle.allowances.proofs.Sums.{Summing}
use Rattle.allowances.proofs.rows_tally.Given as goal

abbrev pub invariant-loop-number : goal.invariant-loop-number
invariant-loop-number l = Summing (rows_counts (rows_in l.list)) (rows_counts (instructions_at (rows (tables l.list.store.now)) (drop l.number-index l.list.numbers.now))) l.sum
