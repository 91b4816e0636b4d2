use Rattle.std.proofs.Common.{◌≡◌, ℕ, ◌+◌, length, get_or, sym, rules, arith}
use Rattle.std.proofs.lemmas.List.{get_or_default}
use Rattle.hir.specs.declared.rows.Run.{Run}
use Rattle.hir.specs.View.{null_function}
use Rattle.listed_once.proofs.Marks.{at_first, all_clear}
use Rattle.listed_once.proofs.runs.functions_apart.Goals as goal

pub returns : goal.returns
returns c =
    let fs = c.args.functions.now in
    let run : ℕ → Run = λ f. (get_or fs f null_function).blocks in
    all_clear c.mark_runs.result run (0 + length fs) (length fs) c.mark_runs.new.marks (omega arith) (c.mark_runs.ensures run 0 (λ i d r l h. let e : r ≡ (get_or fs i d).blocks = search rules in let z : 0 + i ≡ i = omega arith in rw (z, sym (get_or_default fs i d null_function l)) e) (at_first run c.args.marks.now c.requires.clear))
