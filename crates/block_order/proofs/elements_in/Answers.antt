use Rattle.std.proofs.Common.{◌≡◌, suc, ◌<◌, Bool, List, [], ◌∷◌, map, filter, length, refl, ap, ◌∙◌, inl, inr, rules, tests}
use Rattle.std.proofs.lemmas.Bool.{cases_Bool}
use Rattle.std.proofs.lemmas.Iterator.{YieldsList-from_slice}
use Rattle.std.proofs.lemmas.Iterator.Consumers.{YieldsList-from_filter, count_from_yields_List}
use Rattle.rules.specs.Lists.{select}
use Rattle.rules.specs.Views.{is_element}
use Rattle.hir.specs.Tables.{tables}
use Rattle.hir.specs.View.{instruction_at, rows}
use Rattle.refusals.proofs.Chains.{called_at_each}
use Rattle.block_order.proofs.elements_in.Goals as goal

count_mapped : {A B : Type 0} (test : B → Bool) (f : A → B) (xs : List A) → length (filter (λ x. test (f x)) xs) ≡ length (select test (map f xs))
count_mapped test f [] = refl
count_mapped test f (x ∷ xs) = elim (cases_Bool (test (f x))) [ inl e ↦ let h = count_mapped test f xs in simp e (ap suc h) | inr e ↦ let h = count_mapped test f xs in simp e h ]

pub count-requires-clause-can : goal.count-requires-clause-can
count-requires-clause-can c =
    let l = c.args.list in
    (tt, tt, called_at_each (λ n. n < l.store.now.counts.instructions) l.numbers.now l.listed (YieldsList-from_slice l.numbers.now cc) (λ x q h. search rules) (λ x u. search rules))

pub returns : goal.returns
returns c =
    let numbers = c.args.list.numbers.now in
    let f = instruction_at (rows (tables c.args.list.store.now)) in
    count_from_yields_List _ _ c.count.ensures.ran (YieldsList-from_filter _ (λ n. is_element (f n)) (YieldsList-from_slice numbers cc) c.filter.ensures.closure (λ x b q k. search (rules, tests))) ∙ count_mapped is_element f numbers
