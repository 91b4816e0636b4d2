use Rattle.std.proofs.Common.{drop}
use Rattle.reading.specs.Stored.{function_seen}
use Rattle.sweep.specs.Marks.{round_passed}
use Rattle.sweep.specs.Marking.{HasMarked}
use Rattle.sweep.proofs.mark.Marking.mark_round.Given as goal

abbrev pub invariant-loop-k : goal.invariant-loop-k
invariant-loop-k l = HasMarked l.initial.self l.self (round_passed l.initial.self.marks.now (drop l.k (function_seen l.initial.self.function).blocks)) l.new
