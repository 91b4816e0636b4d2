-- The neighbours of a list, as `windows(2)` gives them.
use Rattle.std.proofs.Common.{◌≡◌, ℕ, zero, suc, ◌<◌, ◌≤◌, List, [], ◌∷◌, map, length, get_or, take, drop, refl, subst, ◌∙◌, add-one, arith}
use Rattle.std.specs.declared.slice.Windows.{Windows}
use Rattle.std.specs.List.{AllByRecursion}
use Rattle.std.specs.Slice.Iter.{windows_rest, windows_size, windows_steps}
use Rattle.std.proofs.lemmas.Iterator.{YieldsList}
use Rattle.std.proofs.lemmas.Iterator.Splits.{YieldsList-from_shown_while}
use Rattle.rules.specs.Views.{InstructionV}
use Rattle.refusals.specs.Walked.{ComesAfter, Rising}

abbrev pairs_from : ℕ → List ℕ → List (List ℕ)
pairs_from x [] = []
pairs_from x (y ∷ ys) = (x ∷ y ∷ []) ∷ pairs_from y ys

abbrev pub pairs : List ℕ → List (List ℕ)
pairs [] = []
pairs (x ∷ xs) = pairs_from x xs

no_pairs : (xs : List ℕ) → length xs < 2 → length (pairs xs) ≡ 0
no_pairs [] l = refl
no_pairs (x ∷ []) l = refl
no_pairs (x ∷ y ∷ ys) l = absurd (omega arith)

first_pair : (xs : List ℕ) → 2 ≤ length xs → pairs xs ≡ take 2 xs ∷ pairs (drop 1 xs)
first_pair [] l = absurd (omega arith)
first_pair (x ∷ []) l = absurd (omega arith)
first_pair (x ∷ y ∷ ys) l = refl

pub YieldsList-from_pairs : (xs : List ℕ) (s : Windows ℕ) → windows_rest s ≡ xs → windows_size s ≡ 2 → YieldsList windows_steps (λ w. w.now) s (pairs xs)
YieldsList-from_pairs xs s e two = subst (λ ys. YieldsList windows_steps (λ w. w.now) s (pairs ys)) e
    (YieldsList-from_shown_while windows_steps (λ w. w.now) (λ t. pairs (windows_rest t)) (λ t. windows_size t ≡ 2)
    (λ t u size n. no_pairs (windows_rest t) (omega arith))
    (λ t w u size n. (n.0 ∙ size, let f = first_pair (windows_rest t) (omega (arith, n.1.0)) in cc))
    s two)

-- two used numbers
pub record BothUsed (n : ℕ) (w : List ℕ) : Type 0 where
  pub two : length w ≡ 2
  pub first : get_or w 0 0 < n
  pub second : get_or w 1 0 < n

pub pairs_used : (n : ℕ) (xs : List ℕ) → AllByRecursion (λ x. x < n) xs → AllByRecursion (BothUsed n) (pairs xs)
pairs_used n [] a = tt
pairs_used n (x ∷ []) a = tt
pairs_used n (x ∷ y ∷ ys) a = (record { two = refl; first = a.0; second = a.1.0 }, pairs_used n (y ∷ ys) a.1)

module _ (f : ℕ → InstructionV) where
  abbrev pub After : List ℕ → Type 0
  After w = ComesAfter (f (get_or w 0 0)) (f (get_or w 1 0))

  pub rising_from : (xs : List ℕ) → AllByRecursion After (pairs xs) → Rising (map f xs)
  rising_from [] a k d l = absurd (omega arith)
  rising_from (x ∷ []) a k d l = absurd (omega arith)
  rising_from (x ∷ y ∷ ys) a zero d l = a.0
  rising_from (x ∷ y ∷ ys) a (suc k) d l = rw add-one (rw add-one at (rising_from (y ∷ ys) a.1 k d (omega arith)))

  pub rising_to : (xs : List ℕ) → Rising (map f xs) → AllByRecursion After (pairs xs)
  rising_to [] r = tt
  rising_to (x ∷ []) r = tt
  rising_to (x ∷ y ∷ ys) r = (r 0 (f x) (omega arith), rising_to (y ∷ ys) (λ k d l. rw add-one (rw add-one at (r (suc k) d (omega arith)))))
