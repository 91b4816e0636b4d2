use Rattle.std.proofs.Common.{◌≡◌, Bool, true, false, not, MatchBool, subst, rules, tests}
use Rattle.std.specs.List.{AllByRecursion}
use Rattle.std.proofs.lemmas.Iterator.{YieldsList-from_slice}
use Rattle.rules.specs.Views.{InstructionV, Hir, is_element}
use Rattle.hir.specs.Tables.{tables}
use Rattle.hir.specs.View.{instruction_at, place_view, rows, view}
use Rattle.hir.specs.WellFormed.{PlaceFits}
use Rattle.refusals.specs.Walked.{ChildKeyless, Keyless}
use Rattle.refusals.proofs.Chains.{called_at_each, no_mapped_tell}
use Rattle.key_children.proofs.row_keyless.Goals as goal

element_told : (h : Hir) (i : InstructionV) (b : Bool) → is_element i ≡ true → MatchBool b (AllByRecursion (ChildKeyless h) i.places) (AllByRecursion (ChildKeyless h) i.places → ⊥) → MatchBool b (Keyless h i) (Keyless h i → ⊥)
element_told h i true e a = λ _. a
element_told h i false e n = λ k. n (k e)

pub any-requires-clause-callable : goal.any-requires-clause-callable
any-requires-clause-callable c = called_at_each (PlaceFits c.args.list.store.now.counts) c.places-places.result.now c.places-places.ensures.fit (YieldsList-from_slice c.places-places.result.now cc) (λ x q h. search rules) (λ x f. search f.identifier)

pub returns : goal.returns
returns c =
    let t = tables c.args.list.store.now in
    let told = not c.any.result in
    element_told (view t) (instruction_at (rows t) c.args.number) told (search (rules, tests))
    (subst (λ ps. MatchBool told (AllByRecursion (ChildKeyless (view t)) ps) (AllByRecursion (ChildKeyless (view t)) ps → ⊥)) c.places-places.ensures.seen
    (no_mapped_tell (ChildKeyless (view t)) (place_view (view t).text) _ _ c.any.result c.any.ensures.ran (YieldsList-from_slice c.places-places.result.now cc) (λ x q h. search (rules, tests)) (λ x q h. search (rules, tests))))
