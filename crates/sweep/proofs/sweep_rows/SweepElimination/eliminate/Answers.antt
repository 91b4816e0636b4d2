use Rattle.std.proofs.Common.{◌∙◌}
use Rattle.hir.specs.Tables.{tables}
use Rattle.hir.specs.View.{view}
use Rattle.sweep.proofs.Thinning.{marks_sweep}
use Rattle.sweep.proofs.sweep_rows.SweepElimination.eliminate.Goals as goal

pub returns-clause-does : goal.returns-clause-does
returns-clause-does c =
    let e = c.thin_lists.ensures in
    record {
      seen = e.seen ∙ marks_sweep c.mark_needed.new.marks (view (tables c.args.store.now)) c.args.function.0 c.mark_needed.ensures;
      well = e.well;
      kept = e.kept;
      only = e.only;
      held = e.held;
    }
