use Rattle.std.proofs.Common.{◌≡◌, ◌+◌, sym, subst, arith}
use Rattle.hir.specs.declared.rows.Run.{Run}
use Rattle.listed_once.specs.Marking.{Marked, MarksRun, Unmarked}
use Rattle.listed_once.proofs.Marks.{one_more, refused}
use Rattle.listed_once.proofs.runs.mark_runs.Goals as goal

pub mark_run-requires : goal.mark_run-requires
mark_run-requires g c = let f = c.requires.fit c.loop-row.row-index c.row-item.result c.run_of.result c.loop-row-test.true (record { shown = _; shows = c.row-item.is; says = record { met = c.run_of.ensures } }) in omega arith

pub returns-then-not-mark_run : goal.returns-then-not-mark_run
returns-then-not-mark_run g c = λ run n are marked m l.
    let k = c.loop-row.row-index in
    let ms = c.loop-row.marks in
    let e : c.run_of.result ≡ run (n + k) = are k c.row-item.result c.run_of.result c.loop-row-test.true (record { shown = _; shows = c.row-item.is; says = record { met = c.run_of.ensures } }) in
    refused run (n + k) m ms (c.loop-row.invariant run n are marked) (λ u. c.if-not-mark_run.ensures (subst (λ (r : Run). Unmarked r ms) (sym e) u)) (omega arith)

pub loop-row-preserved : goal.loop-row-preserved
loop-row-preserved g c = λ run n are marked.
    let k = c.loop-row.row-index in
    let ms = c.loop-row.marks in
    let after = c.mark_run.new.marks in
    let e : c.run_of.result ≡ run (n + k) = are k c.row-item.result c.run_of.result c.loop-row-test.true (record { shown = _; shows = c.row-item.is; says = record { met = c.run_of.ensures } }) in
    let more : n + k + 1 ≡ n + (k + 1) = omega arith in
    subst (λ j. Marked run j after) more (one_more run (n + k) ms after (c.loop-row.invariant run n are marked) (subst (λ (r : Run). MarksRun r ms after) e c.if-not-mark_run.ensures))
