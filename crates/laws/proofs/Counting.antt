-- Counts grow with lists, and sum over them.
use Rattle.std.proofs.Common.{◌≡◌, ℕ, ◌+◌, ◌/◌, ◌≤◌, true, false, eqb, leb, List, [], ◌∷◌, ◌++◌, length, subst, inl, inr, arith}
use Rattle.std.proofs.lemmas.Bool.{cases_Bool, leb-true, leb-false}
use Rattle.rules.specs.Lists.{Sublist, ends, keeps, skips, backwards}
use Rattle.rules.specs.Views.{InstructionV, is_element}
use Rattle.rules.proofs.Steps.{pick_true, pick_false}
use Rattle.laws.specs.Allowances.{Counts, no_counts, plus, element_counts, row_counts, rows_counts, halved, block_counts, outside_components, tally}

pub record Le (a b : Counts) : Type 0 where
  pub attributes : a.attributes ≤ b.attributes
  pub children : a.children ≤ b.children
  pub elements : a.elements ≤ b.elements
  pub pairs : a.pairs ≤ b.pairs
  pub listed : a.listed ≤ b.listed
  pub letters : a.letters ≤ b.letters

pub le_refl : (a : Counts) → Le a a
le_refl a = omega arith

pub le_same : (a b : Counts) → a ≡ b → Le a b
le_same a b e = subst (λ (z : Counts). Le a z) e (le_refl a)

pub le_trans : (a b c : Counts) → Le a b → Le b c → Le a c
le_trans a b c p q = omega arith

pub le_plus : (a b c d : Counts) → Le a b → Le c d → Le (plus a c) (plus b d)
le_plus a b c d p q = omega arith

pub le_none : (a : Counts) → Le no_counts a
le_none a = omega arith

-- groups alone
abbrev pub pair : ℕ → Counts
pair n = record { attributes = 0; children = 0; elements = 0; pairs = n; listed = 0; letters = 0 }

abbrev pub new_list : ℕ → Counts
new_list n = record { attributes = 0; children = 0; elements = 0; pairs = 0; listed = n; letters = 0 }

pub row_yes : (i : InstructionV) → is_element i ≡ true → row_counts i ≡ element_counts i
row_yes i h = pick_true (is_element i) (element_counts i) no_counts h

rows-++ : (is js : List InstructionV) → Le (rows_counts (is ++ js)) (plus (rows_counts is) (rows_counts js))
rows-++ [] js = omega arith
rows-++ (i ∷ is) js = let e = rows-++ is js in omega arith

pub rows_backwards : (is : List InstructionV) → Le (rows_counts (backwards is)) (rows_counts is)
rows_backwards [] = le_refl no_counts
rows_backwards (i ∷ is) =
    let e = rows-++ (backwards is) (i ∷ []) in
    let q = rows_backwards is in
    omega arith

pub sub_length : {A : Type 0} (xs ys : List A) → Sublist xs ys → length xs ≤ length ys
sub_length [] ys s = omega arith
sub_length (x ∷ xs) [] s = elim s [ ]
sub_length (x ∷ xs) (y ∷ ys) (keeps s) = let q = sub_length xs ys s in omega arith
sub_length (x ∷ xs) (y ∷ ys) (skips s) = let q = sub_length (x ∷ xs) ys s in omega arith

pub rows_sub : {is js : List InstructionV} → Sublist is js → Le (rows_counts is) (rows_counts js)
rows_sub ends = le_refl no_counts
rows_sub (keeps {x = i} {xs = is} {ys = js} s) = le_plus (row_counts i) (row_counts i) (rows_counts is) (rows_counts js) (le_refl (row_counts i)) (rows_sub s)
rows_sub (skips {y = i} {xs = is} {ys = js} s) = let q = rows_sub s in omega arith

halved_le : (e f n k : ℕ) → e ≤ f → n ≤ k → Le (halved e n) (halved f k)
halved_le e f n k p q = elim (cases_Bool (leb 2 e)) [
  | inl a ↦
      let x = pick_true (leb 2 e) (n + e / 2) 0 a in
      let l : 2 ≤ e = leb-true 2 e a in
      elim (cases_Bool (leb 2 f)) [
        | inl b ↦ (let y = pick_true (leb 2 f) (k + f / 2) 0 b in omega arith)
        | inr b ↦ (let z = leb-false 2 f b in absurd (omega arith))
      ]
  | inr a ↦ (let x = pick_false (leb 2 e) (n + e / 2) 0 a in omega arith)
]

pub block_sub : (is js : List InstructionV) → Sublist is js → Le (block_counts is) (block_counts js)
block_sub is js s =
    let q = rows_sub s in
    le_plus (rows_counts is) (rows_counts js) (halved (rows_counts is).elements (length is)) (halved (rows_counts js).elements (length js)) q
    (halved_le (rows_counts is).elements (rows_counts js).elements (length is) (length js) q.elements (sub_length is js s))

-- a block's share: its elements, its groups and, with two elements, its new list
pub block_share : (rows : List InstructionV) → Le (plus (rows_counts rows) (pair ((rows_counts rows).elements / 2))) (block_counts rows)
block_share rows = omega arith

pub block_listed : (rows : List InstructionV) → 2 ≤ (rows_counts rows).elements → Le (plus (plus (rows_counts rows) (pair ((rows_counts rows).elements / 2))) (new_list (length rows + (rows_counts rows).elements / 2))) (block_counts rows)
block_listed rows h = elim (cases_Bool (leb 2 (rows_counts rows).elements)) [
  | inl a ↦ (let x = pick_true (leb 2 (rows_counts rows).elements) (length rows + (rows_counts rows).elements / 2) 0 a in omega arith)
  | inr a ↦ (let x = leb-false 2 (rows_counts rows).elements a in absurd (omega arith))
]

pub outside_le : (type : ℕ) (a b : Counts) → Le a b → Le (outside_components type a) (outside_components type b)
outside_le type a b q = elim (eqb type 0) as (λ t. Le (elim t as (λ _. Counts) [ true ↦ no_counts | false ↦ a ]) (elim t as (λ _. Counts) [ true ↦ no_counts | false ↦ b ])) [ true ↦ le_refl no_counts | false ↦ q ]

pub outside_two : (type : ℕ) (a b c : Counts) → Le (plus a b) c → Le (plus (outside_components type a) (outside_components type b)) (outside_components type c)
outside_two type a b c q = elim (eqb type 0) as (λ t. Le (plus (elim t as (λ _. Counts) [ true ↦ no_counts | false ↦ a ]) (elim t as (λ _. Counts) [ true ↦ no_counts | false ↦ b ])) (elim t as (λ _. Counts) [ true ↦ no_counts | false ↦ c ])) [ true ↦ le_refl no_counts | false ↦ q ]

pub tally-++ : (c : ℕ → Counts) (xs ys : List ℕ) → Le (plus (tally c xs) (tally c ys)) (tally c (xs ++ ys)) × Le (tally c (xs ++ ys)) (plus (tally c xs) (tally c ys))
tally-++ c [] ys = (omega arith, omega arith)
tally-++ c (x ∷ xs) ys = let q = tally-++ c xs ys in let a = q.0 in let b = q.1 in (omega arith, omega arith)

pub tally_sub : (c : ℕ → Counts) {xs ys : List ℕ} → Sublist xs ys → Le (tally c xs) (tally c ys)
tally_sub c ends = le_refl no_counts
tally_sub c (keeps {x = x} {xs = xs} {ys = ys} s) = le_plus (c x) (c x) (tally c xs) (tally c ys) (le_refl (c x)) (tally_sub c s)
tally_sub c (skips {y = y} {xs = xs} {ys = ys} s) = let q = tally_sub c s in omega arith
