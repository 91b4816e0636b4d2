use Rattle.std.proofs.Common.{sym, ◌∙◌, arith, rules}
use Rattle.ordered_table.proofs.Tables.{replaced, added, refused}
use Rattle.ordered_table.proofs.OrderedTable.insert.Goals as goal

pub returns-in-Some-clause-inserted : goal.returns-in-Some-clause-inserted
returns-in-Some-clause-inserted g c = replaced _ c.args.self.now _ _ _ _ c.in-Some.i c.index-self-i.result c.index-self-i-in-Some.result (sym c.index_of.ensures ∙ c.in-Some.is) (search rules) (search rules) (search rules)

pub returns-in-None-clause-inserted : goal.returns-in-None-clause-inserted
returns-in-None-clause-inserted g c = refused _ c.args.self.now _ _ _ _ (sym c.index_of.ensures ∙ c.in-None.is) (omega arith) (search rules) (search rules) (search rules)

pub returns-in-None-2-clause-inserted : goal.returns-in-None-2-clause-inserted
returns-in-None-2-clause-inserted g c = added _ c.args.self.now _ _ _ _ (sym c.index_of.ensures ∙ c.in-None-2.is) (omega arith) (search rules) (search rules) (search rules)
