-- A number in decimal is written as the standard library writes it, and no other number is written so.
use Rattle.std.proofs.Common.{◌≡◌, ℕ, zero, suc, ◌+◌, ◌-◌, ◌*◌, ◌/◌, ◌%◌, ◌^◌, ◌<◌, ◌≤◌, ltb, List, [], ◌∷◌, ◌++◌, decimal, sym, refl, ap, ◌∙◌, inl, inr, arith}
use Rattle.std.proofs.lemmas.Fmt.{decimal_by_steps}
use Rattle.std.proofs.lemmas.Bool.{cases_Bool, ltb-true, ltb-false, lt-ltb, le-ltb}
use Rattle.rules.specs.Views.{Bytes}
use Rattle.rules.specs.Names.{digits_of, numeral}
use Rattle.rules.proofs.Steps.{pick_true, pick_false}

-- the number that digits stand for
value : ℕ → Bytes → ℕ
value a [] = a
value a (d ∷ ds) = value (a * 10 + (d - 48)) ds

value_snoc : (a : ℕ) (ds : Bytes) (d : ℕ) → value a (ds ++ (d ∷ [])) ≡ value a ds * 10 + (d - 48)
unfolding value
value_snoc a [] d = refl
value_snoc a (c ∷ ds) d = value_snoc (a * 10 + (c - 48)) ds d

digits_value : (k n : ℕ) → n < k → value 0 (digits_of k n) ≡ n
unfolding value
digits_value zero n h = omega arith
digits_value (suc k) n h = elim (cases_Bool (ltb n 10)) [
  | inl e ↦ ap (value 0) (pick_true (ltb n 10) ((48 + n) ∷ []) (digits_of k (n / 10) ++ ((48 + n % 10) ∷ [])) e) ∙ (omega arith)
  | inr e ↦
      let big = ltb-false n 10 e in
      ap (value 0) (pick_false (ltb n 10) ((48 + n) ∷ []) (digits_of k (n / 10) ++ ((48 + n % 10) ∷ [])) e)
      ∙ value_snoc 0 (digits_of k (n / 10)) (48 + n % 10)
      ∙ ap (λ (m : ℕ). m * 10 + (48 + n % 10 - 48)) (digits_value k (n / 10) (omega arith))
      ∙ (omega arith)
]

-- so two numbers with the same numeral are one
pub numeral_same : (m n : ℕ) → numeral m ≡ numeral n → m ≡ n
unfolding numeral
numeral_same m n e =
    let p = digits_value (suc m) m (omega arith) in
    let q = digits_value (suc n) n (omega arith) in
    sym p ∙ ap (value 0) e ∙ q

-- a numeral ends in a digit
unfoldable pub last : ℕ → Bytes → ℕ
last d [] = d
last d (x ∷ xs) = last x xs

last_snoc : (d : ℕ) (xs : Bytes) (y : ℕ) → last d (xs ++ (y ∷ [])) ≡ y
unfolding last
last_snoc d [] y = refl
last_snoc d (x ∷ xs) y = last_snoc x xs y

last_after : (d : ℕ) (xs ys : Bytes) (y : ℕ) → last d (xs ++ (ys ++ (y ∷ []))) ≡ y
unfolding last
last_after d [] ys y = last_snoc d ys y
last_after d (x ∷ xs) ys y = last_after x xs ys y

pub numeral_last : (d : ℕ) (own : Bytes) (n : ℕ) → (48 ≤ last d (own ++ numeral n)) × (last d (own ++ numeral n) < 58)
unfolding numeral last
numeral_last d own n = elim (cases_Bool (ltb n 10)) [
  | inl e ↦
      let small = ltb-true n 10 e in
      let q : last d (own ++ numeral n) ≡ 48 + n = ap (λ (ds : Bytes). last d (own ++ ds)) (pick_true (ltb n 10) ((48 + n) ∷ []) (digits_of n (n / 10) ++ ((48 + n % 10) ∷ [])) e) ∙ last_snoc d own (48 + n) in
      (omega arith, omega arith)
  | inr e ↦
      let q : last d (own ++ numeral n) ≡ 48 + n % 10 = ap (λ (ds : Bytes). last d (own ++ ds)) (pick_false (ltb n 10) ((48 + n) ∷ []) (digits_of n (n / 10) ++ ((48 + n % 10) ∷ [])) e) ∙ last_after d own (digits_of n (n / 10)) (48 + n % 10) in
      (omega arith, omega arith)
]

-- digits do not depend on how many are allowed, once they suffice
abbrev Spelt : ℕ → List ℕ → Type 0
Spelt n ds = (k : ℕ) → n < k → digits_of k n ≡ ds

spelt_one : (n : ℕ) → n < 10 → Spelt n ((48 + n) ∷ [])
spelt_one n h zero l = absurd (omega arith)
spelt_one n h (suc k) l = pick_true (ltb n 10) ((48 + n) ∷ []) (digits_of k (n / 10) ++ ((48 + n % 10) ∷ [])) (lt-ltb n 10 h)

spelt_more : (n : ℕ) (ds : List ℕ) → 10 ≤ n → Spelt (n / 10) ds → Spelt n (ds ++ ((48 + n % 10) ∷ []))
spelt_more n ds h p zero l = absurd (omega arith)
spelt_more n ds h p (suc k) l =
    pick_false (ltb n 10) ((48 + n) ∷ []) (digits_of k (n / 10) ++ ((48 + n % 10) ∷ [])) (le-ltb n 10 h)
    ∙ ap (λ (l : List ℕ). l ++ ((48 + n % 10) ∷ [])) (p k (omega arith))

pub numeral_decimal : (n : ℕ) → n < 2 ^ 64 → numeral n ≡ decimal n
unfolding numeral
numeral_decimal n h = decimal_by_steps Spelt spelt_one spelt_more n h (suc n) (omega arith)
