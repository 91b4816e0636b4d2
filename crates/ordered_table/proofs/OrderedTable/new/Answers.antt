use Rattle.std.proofs.Common.{rules}
use Rattle.ordered_table.proofs.Laws.{ordered}
use Rattle.ordered_table.proofs.OrderedTable.new.Goals as goal

pub returns : goal.returns
returns g c = record {
  lender = search rules;
  holds = search rules;
  spare = search rules;
  ordered = λ text. ordered (g.K.Key.alike text) (g.met.K.Key.reflexive text) (g.met.K.Key.symmetric text) (g.met.K.Key.transitive text);
}
