use Rattle.std.proofs.Common.{◌≡◌, ℕ, ◌+◌, length, subst, rules, arith}
use Rattle.hir.specs.declared.rows.Run.{Run}
use Rattle.listed_once.specs.Marking.{Marked, list_or_preds}
use Rattle.listed_once.proofs.Marks.{list_at, preds_at, at_first, all_clear}
use Rattle.listed_once.proofs.runs.lists_apart.Goals as goal

pub returns-then-mark_runs : goal.returns-then-mark_runs
returns-then-mark_runs c =
    let bs = c.args.blocks.now in
    let n = length bs in
    let run : ℕ → Run = list_or_preds bs in
    let lists = c.if-mark_runs.ensures run 0 (λ i d r l h. list_at bs i d r l (search rules)) (at_first run c.args.marks.now c.requires.clear) in
    let z : 0 + n ≡ n = omega arith in
    let preds = c.mark_runs-then-mark_runs.ensures run n (λ i d r l h. preds_at bs i d r l (search rules)) (subst (λ k. Marked run k c.mark_runs.new.marks) z lists) in
    all_clear c.mark_runs-then-mark_runs.result run (n + n) (n + n) c.mark_runs-then-mark_runs.new.marks (λ _. n + n) preds

pub returns-else-mark_runs : goal.returns-else-mark_runs
returns-else-mark_runs c =
    let bs = c.args.blocks.now in
    let run : ℕ → Run = list_or_preds bs in
    rw c.if-mark_runs.false (c.if-mark_runs.ensures run 0 (λ i d r l h. list_at bs i d r l (search rules)) (at_first run c.args.marks.now c.requires.clear) (length bs + length bs) (omega arith))
