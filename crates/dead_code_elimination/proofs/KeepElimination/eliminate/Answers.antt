use Rattle.std.proofs.Common.{sym}
use Rattle.hir.specs.Tables.{tables}
use Rattle.hir.specs.View.{view}
use Rattle.hir.proofs.Frames.{kept_same}
use Rattle.dead_code_elimination.proofs.Same.{eliminated_keep, only_same, held_same}
use Rattle.dead_code_elimination.proofs.KeepElimination.eliminate.Goals as goal

pub returns-clause-does : goal.returns-clause-does
returns-clause-does c =
    let s = c.args.store.now in
    let f = c.args._function.0 in
    record { seen = sym (eliminated_keep (view (tables s)) f); well = rw (← c.store.view_is) c.store.invariant; kept = kept_same (tables s); only = only_same (tables s) f; held = held_same s }
