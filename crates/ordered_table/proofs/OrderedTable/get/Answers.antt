use Rattle.std.proofs.Common.{sym, ◌∙◌, rules}
use Rattle.ordered_table.specs.Table.{entries_of}
use Rattle.ordered_table.proofs.Places.{there_at, missing_at}
use Rattle.ordered_table.proofs.OrderedTable.get.Goals as goal

pub returns-in_err-i : goal.returns-in_err-i
returns-in_err-i g c =
    let h = missing_at (g.K.Key.alike c.args.text.now) c.args.key.now (entries_of c.args.self.now) (sym c.index_of.ensures ∙ c.in_err-i.was) in
    search (rules, h.looked)

pub returns : goal.returns
returns g c =
    let h = there_at (g.K.Key.alike c.args.text.now) c.args.key.now (entries_of c.args.self.now) c.in_ok-i.i (sym c.index_of.ensures ∙ c.in_ok-i.was) in
    sym (simp c.entries.ensures (h.looked c.index-entries-i.result))
