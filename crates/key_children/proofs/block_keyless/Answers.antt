use Rattle.std.proofs.Common.{◌<◌, map, Bor, MatchBool, sym, subst, ap, ◌∙◌, rules}
use Rattle.std.specs.List.{AllByRecursion}
use Rattle.std.proofs.lemmas.Iterator.{YieldsList-from_slice}
use Rattle.hir.specs.declared.rows.Store.{Store}
use Rattle.hir.specs.Tables.{tables}
use Rattle.hir.specs.View.{instruction_at, rows, view}
use Rattle.refusals.specs.Walked.{Keyless}
use Rattle.refusals.proofs.Chains.{called_at_each, all_mapped_tell}
use Rattle.key_children.proofs.block_keyless.Goals as goal

pub all-requires-clause-callable : goal.all-requires-clause-callable
all-requires-clause-callable c =
    let l = c.list-list.result in
    called_at_each (λ n. n < l.store.now.counts.instructions) l.numbers.now l.listed (YieldsList-from_slice l.numbers.now cc) (λ x q h. search rules) (λ x f. search rules)

pub returns : goal.returns
returns c =
    let t = tables c.args.function.store.now in
    let numbers = c.list-list.result.numbers.now in
    let seen = ap (λ (s : Bor Store). map (instruction_at (rows (tables s.now))) numbers) (sym c.list-list.ensures.store) ∙ c.list-list.ensures.seen in
    subst (λ is. MatchBool c.all.result (AllByRecursion (Keyless (view t)) is) (AllByRecursion (Keyless (view t)) is → ⊥)) seen
    (all_mapped_tell (Keyless (view t)) (instruction_at (rows t)) _ _ c.all.result c.all.ensures.ran (YieldsList-from_slice numbers cc) (λ x b q h. search rules))
