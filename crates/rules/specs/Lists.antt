-- Lists, by tests and by positions.
use Rattle.std.specs.Prelude.{◌≡◌, ℕ, zero, suc, Bool, true, false, ◌||◌, List, [], ◌∷◌, ◌++◌, nat_eq}

-- the elements that pass a test, in order
abbrev pub select : {A : Type 0} → (A → Bool) → List A → List A
select p [] = []
select p (x ∷ xs) = elim (p x) [ true ↦ x ∷ select p xs | false ↦ select p xs ]

-- does one element pass the test?
abbrev pub any : {A : Type 0} → (A → Bool) → List A → Bool
any p [] = false
any p (x ∷ xs) = p x || any p xs

-- the lists that the elements give, end to end
abbrev pub gathered : {A B : Type 0} → (A → List B) → List A → List B
gathered f [] = []
gathered f (x ∷ xs) = f x ++ gathered f xs

-- from the last element to the first
abbrev pub backwards : {A : Type 0} → List A → List A
backwards [] = []
backwards (x ∷ xs) = backwards xs ++ (x ∷ [])

-- is the number one of these?
abbrev pub within : ℕ → List ℕ → Bool
within n ns = any (nat_eq n) ns

-- no number stands in the list twice
abbrev pub Distinct : List ℕ → Type 0
Distinct [] = Unit
Distinct (x ∷ xs) = (within x xs ≡ false) × Distinct xs

-- the list with its element at a position changed, and as it was past its end
abbrev pub changed : {A : Type 0} → (A → A) → ℕ → List A → List A
changed f i [] = []
changed f zero (x ∷ xs) = f x ∷ xs
changed f (suc i) (x ∷ xs) = x ∷ changed f i xs

-- the list has the element
pub data Lists {A : Type 0} : List A → A → Type 0 where
  here : {i : A} {is : List A} → Lists (i ∷ is) i
  there : {i j : A} {is : List A} → Lists is i → Lists (j ∷ is) i

-- the first list is the second without some of its elements
pub data Sublist {A : Type 0} : List A → List A → Type 0 where
  ends : Sublist [] []
  keeps : {x : A} {xs ys : List A} → Sublist xs ys → Sublist (x ∷ xs) (x ∷ ys)
  skips : {y : A} {xs ys : List A} → Sublist xs ys → Sublist xs (y ∷ ys)
