use Rattle.reading.specs.Stored.{function_seen}
use Rattle.read_write.proofs.BlockMarks.{BlocksDone}
use Rattle.read_write.proofs.rows.function_sound.Given as goal

-- the blocks before k
abbrev pub invariant-loop-k : goal.invariant-loop-k
invariant-loop-k l = BlocksDone l.base l.k (function_seen l.function).blocks l.initial.marks l.marks
