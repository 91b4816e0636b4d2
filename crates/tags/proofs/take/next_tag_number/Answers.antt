use Rattle.std.proofs.Common.{◌≡◌, ◌+◌, true, false, sym, ◌∙◌, arith, rules}
use borrow.Author.Tests.{tests}
use Rattle.std.proofs.lemmas.Iterator.{first_from_Range}
use Rattle.rules.specs.Names.{known, tag_name}
use Rattle.hir.specs.Tables.{tables}
use Rattle.hir.specs.View.{view}
use Rattle.tags.proofs.Spelling.{tries_first, first_free}
use Rattle.tags.proofs.take.next_tag_number.Goals as goal

pub returns-clause-number : goal.returns-clause-number
returns-clause-number c =
    let s = c.args.store.now in
    let names = known (view (tables s)) in
    let w = rw c.store.view_is at c.store.invariant in
    let found = first_from_Range _ _ _ c.find.result (λ n. names (tag_name n) ≡ false) (λ n. names (tag_name n) ≡ true) c.find.ensures.ran (λ x q k. search (rules, tests)) (λ x q k. search (rules, tests)) in
    let first = rw c.store.view_is at found in
    let answer = rw c.store.view_is at c.unwrap_or.ensures in
    answer ∙ sym (first_free (s.counts.identifiers + s.counts.instructions + 1) names (s.counts.tag_mark + 1) _ c.find.result (omega arith) first) ∙ tries_first (tables s) w
