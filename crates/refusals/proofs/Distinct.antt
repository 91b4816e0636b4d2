-- Distinct numbers, from two lists and from one of one.
use Rattle.std.proofs.Common.{◌≡◌, ℕ, false, List, [], ◌∷◌, ◌++◌, refl, inl, inr}
use Rattle.std.proofs.lemmas.Bool.{both_ways, eqb-true, or_cases}
use Rattle.rules.specs.Lists.{Distinct}
use Rattle.rules.proofs.Membership.{In, in_out, in_cases, in_right, in_head, out_if}

pub distinct_join : (xs ys : List ℕ) → Distinct xs → Distinct ys → ((x : ℕ) → In x xs → In x ys → ⊥) → Distinct (xs ++ ys)
distinct_join [] ys d e a = e
distinct_join (x ∷ xs) ys d e a =
    (out_if x (xs ++ ys) (λ i. elim (in_cases x xs ys i) [ inl l ↦ in_out x xs l d.0 | inr r ↦ a x (in_head x xs) r ]), distinct_join xs ys d.1 e (λ y i. a y (in_right y (x ∷ []) xs i)))

-- in a list of one
pub alone : (x y : ℕ) → In x (y ∷ []) → x ≡ y
alone x y i = elim (or_cases _ _ i) [ inl e ↦ eqb-true x y e | inr e ↦ absurd (both_ways false refl e) ]
