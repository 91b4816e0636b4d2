use Rattle.std.proofs.Common.{ℕ, List, [], ◌∷◌, length, rules, tests}
use Rattle.std.proofs.lemmas.Iterator.{YieldsList-from_slice}
use Rattle.hir.specs.Tables.{tables}
use Rattle.hir.specs.WellFormed.{Room, text_limit, identifiers_limit, places_limit, instructions_limit, numbers_limit, blocks_limit, functions_limit}
use Rattle.refusals.proofs.Tests.{all_tells, when_like}
use Rattle.allowances.proofs.Allowances.fit.Goals as goal

pub returns : goal.returns
returns c =
    let t = tables c.args.store.now in
    let a = c.args.self in
    let sizes : List (ℕ × ℕ × ℕ × ℕ) =
    (t.counts.text, a.text, length t.text, text_limit)
    ∷ (t.counts.identifiers, a.identifiers, length t.identifiers, identifiers_limit)
    ∷ (t.counts.places, a.places, length t.places, places_limit)
    ∷ (t.counts.instructions, a.instructions, length t.instructions, instructions_limit)
    ∷ (t.counts.numbers, a.numbers, length t.numbers, numbers_limit)
    ∷ (t.counts.blocks, a.blocks, length t.blocks, blocks_limit)
    ∷ (t.counts.functions, a.functions, length t.functions, functions_limit)
    ∷ [] in
    when_like c.all.result
    (λ h. record { text = h.0; identifiers = h.1.0; places = h.1.1.0; instructions = h.1.1.1.0; numbers = h.1.1.1.1.0; blocks = h.1.1.1.1.1.0; functions = h.1.1.1.1.1.1.0 })
    (λ h. (h.text, (h.identifiers, (h.places, (h.instructions, (h.numbers, (h.blocks, (h.functions, tt))))))))
    (all_tells sizes (λ x. Room x.0 x.1 x.2 x.3) _ _ c.all.result c.all.ensures.ran (YieldsList-from_slice sizes cc) (λ x b q k. search (rules, tests)))
