use Rattle.std.proofs.Common.{sym, ◌∙◌, rules}
use borrow.Author.Tests.{tests}
use Rattle.std.proofs.lemmas.Iterator.{YieldsList-from_slice, YieldsList-from_take}
use Rattle.std.proofs.lemmas.Iterator.Search.{any_from_yields_List}
use Rattle.hir.specs.Tables.{tables}
use Rattle.hir.specs.View.{rows}
use Rattle.tags.proofs.Bearing.{bears, some_bears}
use Rattle.tags.proofs.known.some_identifier_bears.Goals as goal

pub returns : goal.returns
returns c =
    let s = c.args.store.now in
    let r = rows (tables c.args.store.now) in
    let n = c.args.name.now in
    any_from_yields_List (bears n r.text) _ _ _ c.any.ensures.ran (YieldsList-from_take s.counts.identifiers (YieldsList-from_slice s.identifiers.now (search rules)) (search rules)) (λ x b q k. search (rules, tests))
    ∙ sym (some_bears n r.text r.identifiers)
