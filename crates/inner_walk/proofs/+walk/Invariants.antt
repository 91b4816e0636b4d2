use Rattle.std.proofs.Common.{◌+◌, ◌-◌, ◌*◌, ◌<◌, drop}
use Rattle.std.specs.List.{AllByRecursion}
use Rattle.std.specs.Iterator.Adapters.{rev_source}
use Rattle.std.specs.Slice.Iter.{iter_rest}
use Rattle.rules.specs.Lists.{backwards}
use Rattle.rules.specs.Drawn.{inner, inner_of}
use Rattle.hir.specs.Tables.{tables}
use Rattle.hir.specs.View.{instructions_at, rows, view}
use Rattle.reading.specs.Stored.{function_seen, rows_in}
use Rattle.inner_walk.proofs.Going.{Going}
use Rattle.inner_walk.proofs.+walk.Given as goal

-- walk_rows calls walk at its own depth, and walk calls walk_rows one level down
abbrev pub decreases-walk : goal.decreases-walk
decreases-walk l = 2 * l.depth

abbrev pub decreases-walk_rows : goal.decreases-walk_rows
decreases-walk_rows l = 2 * l.depth + 1

-- the inner functions of the blocks from k on are left
abbrev pub invariant-walk-loop-k : goal.invariant-walk-loop-k
invariant-walk-loop-k l = Going (l.depth - 1) (view (tables l.function.store.now)) (inner_of (function_seen l.function).blocks) (inner_of (drop l.k (function_seen l.function).blocks)) l.initial.reached l.reached

-- those of the rows that the iterator has left
abbrev pub invariant-walk_rows-loop-number : goal.invariant-walk_rows-loop-number
invariant-walk_rows-loop-number l =
    AllByRecursion (λ n. n < l.list.store.now.counts.instructions) (iter_rest (rev_source l.number-iterator))
    × Going l.depth (view (tables l.list.store.now)) (inner (backwards (rows_in l.list))) (inner (backwards (instructions_at (rows (tables l.list.store.now)) (iter_rest (rev_source l.number-iterator))))) l.initial.reached l.reached
