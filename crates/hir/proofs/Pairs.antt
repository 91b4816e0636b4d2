-- What holds of any two elements: for one element more, one element changed, and a weaker fact.
use Rattle.std.proofs.Common.{◌≡◌, ℕ, ◌<◌, ◌≢◌, List, [], ◌∷◌, ◌++◌, length, get_or, set, sym, ap, ◌∙◌, subst, inl, inr, arith, length-set, get_or-set_other, get_or-set_same}
use Rattle.std.specs.List.{AllByRecursion}
use Rattle.std.proofs.lemmas.List.{get_or_default, get_or_append_left, get_or_push, length_push}
use Rattle.std.proofs.ByRecursion.{All-get_or, All-from_get_or}
use Rattle.hir.specs.WellFormed.{Pairwise}
use Rattle.std.proofs.lemmas.Bool.{cases_eq}

module _ {A : Type 0} (P : A → A → Type 0) where
  pub pairwise_push : (xs : List A) (y : A) → Pairwise P xs → ((i : ℕ) (d : A) → i < length xs → P (get_or xs i d) y × P y (get_or xs i d)) → Pairwise P (xs ++ (y ∷ []))
  pairwise_push xs y p q i j d hi hj ne =
      let n = length_push xs y in
      let old : (k : ℕ) → k < length xs → get_or xs k d ≡ get_or (xs ++ (y ∷ [])) k d = λ k h. sym (get_or_append_left xs (y ∷ []) d k h) in
      let new : (k : ℕ) → k ≡ length xs → y ≡ get_or (xs ++ (y ∷ [])) k d = λ k h. sym (get_or_push xs y d k (sym h)) in
      elim (cases_eq i (length xs)) [
        | inl ei ↦ elim (cases_eq j (length xs)) [
          | inl ej ↦ absurd (ne (omega arith))
          | inr nj ↦ let l : j < length xs = omega arith in subst (λ x. P x (get_or (xs ++ (y ∷ [])) j d)) (new i ei) (subst (P y) (old j l) (q j d l).1)
        ]
        | inr ni ↦ let l : i < length xs = omega arith in elim (cases_eq j (length xs)) [
          | inl ej ↦ subst (P (get_or (xs ++ (y ∷ [])) i d)) (new j ej) (subst (λ x. P x y) (old i l) (q i d l).0)
          | inr nj ↦ let m : j < length xs = omega arith in subst (P (get_or (xs ++ (y ∷ [])) i d)) (old j m) (subst (λ x. P x (get_or xs j d)) (old i l) (p i j d l m ne))
        ]
      ]

  -- one default is enough
  pub pairwise_at : (xs : List A) (e : A) → ((i j : ℕ) → i < length xs → j < length xs → i ≢ j → P (get_or xs i e) (get_or xs j e)) → Pairwise P xs
  pairwise_at xs e p i j d hi hj ne = subst (λ x. P x (get_or xs j d)) (get_or_default xs i e d hi) (subst (P (get_or xs i e)) (get_or_default xs j e d hj) (p i j hi hj ne))

  -- the element at n changed: the others are as they were to each other
  pub pairwise_set : (xs : List A) (n : ℕ) (y e : A) → n < length xs → ((i j : ℕ) → i < length xs → j < length xs → i ≢ j → i ≢ n → j ≢ n → P (get_or xs i e) (get_or xs j e))
      → ((i : ℕ) → i < length xs → i ≢ n → P (get_or xs i e) y × P y (get_or xs i e)) → Pairwise P (set xs n y)
  pairwise_set xs n y e h p q = pairwise_at (set xs n y) e (λ i j hi hj ne.
      let s = length-set xs n y in
      let old : (k : ℕ) → k ≢ n → get_or xs k e ≡ get_or (set xs n y) k e = λ k g. sym (get_or-set_other xs n k y e g) in
      let new : (k : ℕ) → k ≡ n → y ≡ get_or (set xs n y) k e = λ k g. sym (ap (λ v. get_or (set xs n y) v e) g ∙ get_or-set_same xs n y e h) in
      elim (cases_eq i n) [
        | inl ei ↦ elim (cases_eq j n) [
          | inl ej ↦ absurd (ne (omega arith))
          | inr nj ↦ subst (λ x. P x (get_or (set xs n y) j e)) (new i ei) (subst (P y) (old j nj) (q j (omega arith) nj).1)
        ]
        | inr ni ↦ elim (cases_eq j n) [
          | inl ej ↦ subst (P (get_or (set xs n y) i e)) (new j ej) (subst (λ x. P x y) (old i ni) (q i (omega arith) ni).0)
          | inr nj ↦ subst (P (get_or (set xs n y) i e)) (old j nj) (subst (λ x. P x (get_or xs j e)) (old i ni) (p i j (omega arith) (omega arith) ne ni nj))
        ]
      ])

  -- where each element has Q, one fact gives the other
  pub pairwise_under : (Q : A → Type 0) (R : A → A → Type 0) → ((x y : A) → Q x → Q y → P x y → R x y) → (xs : List A) → AllByRecursion Q xs → Pairwise P xs → Pairwise R xs
  pairwise_under Q R f xs a p i j d hi hj ne = f (get_or xs i d) (get_or xs j d) (All-get_or Q xs i d hi a) (All-get_or Q xs j d hj a) (p i j d hi hj ne)

-- each element has P, one of them changed
pub all_but_set : {A : Type 0} (P : A → Type 0) (xs : List A) (n : ℕ) (y e : A) → n < length xs → ((i : ℕ) → i < length xs → i ≢ n → P (get_or xs i e)) → P y → AllByRecursion P (set xs n y)
all_but_set P xs n y e h p q = All-from_get_or P (set xs n y) e (λ i hi.
    let s = length-set xs n y in
    elim (cases_eq i n) [
      | inl g ↦ subst P (sym (ap (λ v. get_or (set xs n y) v e) g ∙ get_or-set_same xs n y e h)) q
      | inr g ↦ subst P (sym (get_or-set_other xs n i y e g)) (p i (omega arith) g)
    ])
