use Rattle.std.proofs.Common.{rules, ◌<◌, length, ℕ, ◌&&◌, eqb, List, sym, ◌∙◌, subst}
use Rattle.std.proofs.ByRecursion.{All-get_or}
use Rattle.std.proofs.lemmas.Iterator.{YieldsList-from_slice}
use Rattle.std.proofs.lemmas.Iterator.Search.{any_from_yields_List}
use Rattle.std.proofs.lemmas.Iterator.Adapters.{serves_from_places}
use Rattle.hir.specs.declared.rows.Place.{Place}
use borrow.Author.Tests.{tests}
use Rattle.sweep.specs.Marks.{is_marked}
use Rattle.sweep.proofs.Marking.{any_written}
use Rattle.sweep.proofs.kept.Marked.has_written.Goals as goal

pub any-requires-clause-callable : goal.any-requires-clause-callable
any-requires-clause-callable c = serves_from_places (YieldsList-from_slice c.args.places.now cc) (λ x q k. search (rules, tests))
    (λ x k h e.
    let inside : x.now.identifier.0 < length c.args.self.now.marks.now = subst (λ (p : Place). p.identifier.0 < length c.args.self.now.marks.now) (sym e) (All-get_or (λ (p : Place). p.identifier.0 < length c.args.self.now.marks.now) c.args.places.now k x.now h c.requires) in
    search (rules, tests))

pub returns : goal.returns
returns c =
    let marks : List ℕ = c.args.self.now.marks.now in
    any_from_yields_List (λ (p : Place). eqb p.role 5 && is_marked marks p.identifier.0) _ _ c.any.result c.any.ensures.ran (YieldsList-from_slice c.args.places.now cc) (λ x b q k. search (rules, tests)) ∙ any_written marks c.args.places.now
