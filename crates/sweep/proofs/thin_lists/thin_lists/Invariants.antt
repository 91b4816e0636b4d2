use Rattle.hir.specs.Tables.{tables, Held}
use Rattle.sweep.proofs.Progress.{Progress}
use Rattle.sweep.proofs.thin_lists.thin_lists.Given as goal

abbrev pub invariant-loop-k : goal.invariant-loop-k
invariant-loop-k l = Progress (tables l.initial.store) l.keep.marks.now l.function.0 l.k (tables l.store) × Held l.store l.initial.store
