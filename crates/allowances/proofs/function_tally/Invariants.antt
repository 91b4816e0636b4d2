use Rattle.std.proofs.Common.{drop}
use Rattle.laws.specs.Allowances.{blocks_counts, function_counts}
use Rattle.reading.specs.Stored.{function_seen}
use Rattle.allowances.proofs.Sums.{Summing}
use Rattle.allowances.proofs.function_tally.Given as goal

abbrev pub invariant-loop-k : goal.invariant-loop-k
invariant-loop-k l = Summing (function_counts (function_seen l.function)) (blocks_counts (drop l.k (function_seen l.function).blocks)) l.sum
