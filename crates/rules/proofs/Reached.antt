-- The functions that a walk reaches.
use Rattle.std.proofs.Common.{◌≡◌, ℕ, zero, suc, ◌<◌, ◌≤◌, false, eqb, List, [], ◌∷◌, ◌++◌, length, refl, ap, ◌∙◌, subst, ap₂, inl, inr, arith}
use Rattle.std.proofs.lemmas.Bool.{or_cases, or_right, both_ways, eqb-true}
use Rattle.rules.specs.Lists.{within, gathered, Distinct}
use Rattle.rules.specs.Views.{FunctionV, Hir, function_at}
use Rattle.rules.specs.Drawn.{Sound, inner_of, on_walk}
use Rattle.rules.proofs.Membership.{In, in_left, in_right, in_head}

-- what is reached rests on the functions that are reached
gathered_same : {A : Type 0} (a b : ℕ → List A) (ys : List ℕ) → ((y : ℕ) → In y ys → a y ≡ b y) → gathered a ys ≡ gathered b ys
gathered_same a b [] h = refl
gathered_same a b (y ∷ ys) h = ap₂ (λ l n. l ++ n) (h y (in_head y ys)) (gathered_same a b ys (λ z q. h z (or_right (eqb z y) (within z ys) q)))

in_gather : (a : ℕ → List ℕ) (x y : ℕ) (ys : List ℕ) → In y ys → In x (a y) → In x (gathered a ys)
in_gather a x y [] h k = absurd (both_ways false refl h)
in_gather a x y (z ∷ ys) h k = elim (or_cases (eqb y z) (within y ys) h) [
  | inl e ↦ in_left x (a z) (gathered a ys) (subst (λ n. In x (a n)) (eqb-true y z e) k)
  | inr e ↦ in_right x (a z) (gathered a ys) (in_gather a x y ys e k)
]

pub same_walk : (h s : Hir) (d x : ℕ) → ((g : ℕ) → In g (on_walk d h x) → function_at s g ≡ function_at h g) → on_walk d s x ≡ on_walk d h x
same_walk h s zero x q = refl
same_walk h s (suc d) x q =
    let here' : function_at s x ≡ function_at h x = q x (in_head x (gathered (on_walk d h) (inner_of (function_at h x).blocks))) in
    let ys = inner_of (function_at h x).blocks in
    ap (λ (g : FunctionV). x ∷ gathered (on_walk d s) (inner_of g.blocks)) here'
    ∙ ap (λ (l : List ℕ). x ∷ l) (gathered_same (on_walk d s) (on_walk d h) ys (λ y i. same_walk h s d y (λ g k. q g (or_right (eqb g x) (within g (gathered (on_walk d h) ys)) (in_gather (on_walk d h) g y ys i k)))))

pub sound_more : (n n' : ℕ) (g : FunctionV) → n ≤ n' → Sound n g → Sound n' g
-- more identifiers do no harm
sound_more n n' g l s = record { once = s.once; ordered = s.ordered; in_range = λ i q x k. (let b = s.in_range i q x k in omega arith); own = s.own }

-- what acceptance says of the functions on a walk d deep
pub record Fine (d : ℕ) (h : Hir) (x : ℕ) : Type 0 where
  pub distinct : Distinct (on_walk d h x)
  pub each : (g : ℕ) → In g (on_walk d h x) → (g < length h.functions) × Sound (length h.identifiers) (function_at h g)
