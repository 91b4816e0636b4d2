-- Elements of lists, by their position.
use Rattle.std.proofs.Common.{◌≡◌, ℕ, zero, suc, ◌<◌, ◌≤◌, List, [], ◌∷◌, ◌++◌, map, length, get_or, refl, ap, ◌∙◌, inl, inr, arith}
use Rattle.rules.specs.Lists.{changed, Lists, here, there, backwards}
use Rattle.rules.specs.Views.{InstructionV, BlockV, rows_of, block_rows}
use Rattle.rules.proofs.Membership.{lists_left, lists_right, lists_split, lists_none, lists_head}

-- a list with one element changed: its length, that element, and the others
pub length_changed : {A : Type 0} (f : A → A) (i : ℕ) (xs : List A) → length (changed f i xs) ≡ length xs
length_changed f zero [] = refl
length_changed f (suc i) [] = refl
length_changed f zero (x ∷ xs) = refl
length_changed f (suc i) (x ∷ xs) = ap suc (length_changed f i xs)

-- maps of two lists, end to end
pub map-++ : {A B : Type 0} (f : A → B) (xs ys : List A) → map f (xs ++ ys) ≡ map f xs ++ map f ys
map-++ f [] ys = refl
map-++ f (x ∷ xs) ys = ap (λ l. f x ∷ l) (map-++ f xs ys)

pub at_changed : {A : Type 0} (F : A → A) (f : ℕ) (xs : List A) (d : A) → f < length xs → get_or (changed F f xs) f d ≡ F (get_or xs f d)
at_changed F f [] d h = absurd (omega arith)
at_changed F zero (x ∷ xs) d h = refl
at_changed F (suc f) (x ∷ xs) d h = at_changed F f xs d (omega arith)

pub at_other : {A : Type 0} (F : A → A) (f g : ℕ) (xs : List A) (d : A) → (g ≡ f → ⊥) → get_or (changed F f xs) g d ≡ get_or xs g d
at_other F zero g [] d h = refl
at_other F (suc f) g [] d h = refl
at_other F zero zero (x ∷ xs) d h = absurd (h refl)
at_other F zero (suc g) (x ∷ xs) d h = refl
at_other F (suc f) zero (x ∷ xs) d h = refl
at_other F (suc f) (suc g) (x ∷ xs) d h = at_other F f g xs d (λ e. h (ap suc e))

-- past the end of a list
pub at_last : {A : Type 0} (xs : List A) (x d : A) → get_or (xs ++ (x ∷ [])) (length xs) d ≡ x
at_last [] x d = refl
at_last (y ∷ xs) x d = at_last xs x d

pub at_past : {A : Type 0} (xs : List A) (n : ℕ) (d : A) → length xs ≤ n → get_or xs n d ≡ d
at_past [] n d h = refl
at_past (y ∷ xs) zero d h = absurd (omega arith)
at_past (y ∷ xs) (suc n) d h = at_past xs n d (omega arith)

-- the rows of a block are rows of the function, and each row of the function is one of some block
pub block_lists : (bs : List BlockV) (k : ℕ) {i : InstructionV} → Lists (block_rows bs k) i → Lists (rows_of bs) i
block_lists [] k l = lists_none l
block_lists (b ∷ bs) zero l = lists_left (rows_of bs) l
block_lists (b ∷ bs) (suc k) l = lists_right b.rows (block_lists bs k l)

pub lists_block : (bs : List BlockV) {i : InstructionV} → Lists (rows_of bs) i → (k : ℕ) × Lists (block_rows bs k) i
lists_block [] l = lists_none l
lists_block (b ∷ bs) l = elim (lists_split b.rows l) [ inl m ↦ (0, m) | inr m ↦ (let q = lists_block bs m in (suc q.0, q.1)) ]

-- an element of a mapped list
pub map_lists : {A B : Type 0} (fn : A → B) (xs : List A) (y : B) → Lists (map fn xs) y → (x : A) × Lists xs x × (y ≡ fn x)
map_lists fn [] y l = lists_none l
map_lists fn (x ∷ xs) y l = elim (lists_head l) [
  | inl e ↦ (x, here, e)
  | inr m ↦ (let u = map_lists fn xs y m in (u.0, there u.1, u.2))
]

-- backwards twice
backwards-++ : {A : Type 0} (xs : List A) (y : A) → backwards (xs ++ (y ∷ [])) ≡ y ∷ backwards xs
backwards-++ [] y = refl
backwards-++ (x ∷ xs) y = ap (λ l. l ++ (x ∷ [])) (backwards-++ xs y)

pub backwards_twice : {A : Type 0} (xs : List A) → backwards (backwards xs) ≡ xs
backwards_twice [] = refl
backwards_twice (x ∷ xs) = backwards-++ (backwards xs) x ∙ ap (λ l. x ∷ l) (backwards_twice xs)
