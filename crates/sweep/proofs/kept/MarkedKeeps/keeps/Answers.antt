use Rattle.std.proofs.Common.{◌∙◌}
use Rattle.hir.specs.Tables.{tables}
use Rattle.sweep.proofs.Reading.{kept_are}
use Rattle.sweep.proofs.kept.MarkedKeeps.keeps.Goals as goal

pub returns : goal.returns
returns c = c.keeps_row.ensures ∙ kept_are (tables c.args.store.now) c.requires.readable c.args.row.0 c.requires.used c.row_places.result.now c.row_places.ensures.seen c.args.self.now.marks.now
