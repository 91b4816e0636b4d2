use Rattle.std.proofs.Common.{ℕ, ◌+◌}
use Rattle.std.specs.Fn.{FnReturnsAt}
use Rattle.hir.specs.declared.rows.Run.{Run}
use Rattle.listed_once.specs.Marking.{Marked, RunsAre}
use Rattle.listed_once.proofs.runs.mark_runs.Given as goal

-- the runs so far
abbrev pub invariant-loop-row : goal.invariant-loop-row
invariant-loop-row g l = (run : ℕ → Run) (n : ℕ) → RunsAre (FnReturnsAt g.F.Fn l.run_of) l.rows run n → Marked run n l.initial.marks → Marked run (n + l.row-index) l.marks
