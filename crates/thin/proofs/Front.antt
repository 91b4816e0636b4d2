-- Rows that stay, one row more: the tables while they are gathered, and what the whole gives.
use Rattle.std.proofs.Common.{◌≡◌, ℕ, zero, suc, ◌+◌, ◌-◌, ◌<◌, ◌≤◌, Bool, true, false, ◌≢◌, List, [], ◌∷◌, ◌++◌, map, length, get_or, take, set, sym, refl, ap, ◌∙◌, subst, append-nil, arith, length-take-le}
use lib.Seq.{paste, length-paste}
use Rattle.std.specs.List.{AllByRecursion}
use Rattle.std.proofs.lemmas.List.{get_or_default, take_more}
use Rattle.std.proofs.ByRecursion.{All-get_or, All-from_get_or}
use Rattle.rules.specs.Lists.{select}
use Rattle.rules.specs.Views.{InstructionV}
use Rattle.hir.specs.Used.{in_run}
use Rattle.hir.specs.declared.rows.Run.{Run}
use Rattle.hir.specs.declared.rows.Store.{Store}
use Rattle.hir.specs.Tables.{Tables, tables, Held}
use Rattle.hir.specs.View.{rows, instruction_at}
use Rattle.hir.specs.WellFormed.{Pairwise, Unlike, Readable}
use Rattle.hir.proofs.Runs.{getD_run, length_run, getD_paste_after, pasted_both, set_paste}
use Rattle.thin.specs.Kept.{kept_of, rewritten}

-- Lists with some elements left out.

module _ {A : Type 0} (p : A → Bool) where
  pub select_append : (xs ys : List A) → select p (xs ++ ys) ≡ select p xs ++ select p ys
  select_append [] ys = refl
  select_append (x ∷ xs) ys = elim (p x) as (λ b. elim b [ true ↦ x ∷ select p (xs ++ ys) | false ↦ select p (xs ++ ys) ] ≡ elim b [ true ↦ x ∷ select p xs | false ↦ select p xs ] ++ select p ys) [ true ↦ ap (λ v. x ∷ v) (select_append xs ys) | false ↦ select_append xs ys ]

  pub select_one : (x : A) → p x ≡ true → select p (x ∷ []) ≡ x ∷ []
  select_one x e = ap (λ b. elim b [ true ↦ x ∷ [] | false ↦ [] ]) e

  pub select_none : (x : A) → p x ≡ false → select p (x ∷ []) ≡ []
  select_none x e = ap (λ b. elim b [ true ↦ x ∷ [] | false ↦ [] ]) e

  shorter : (x : A) (xs : List A) (b : Bool) → length (select p xs) ≤ length xs → length {A = A} (elim b [ true ↦ x ∷ select p xs | false ↦ select p xs ]) ≤ length (x ∷ xs)
  shorter x xs true l = omega arith
  shorter x xs false l = omega arith

  pub length_select : (xs : List A) → length (select p xs) ≤ length xs
  length_select [] = omega arith
  length_select (x ∷ xs) = shorter x xs (p x) (length_select xs)

  pub all_select : (P : A → Type 0) (xs : List A) → AllByRecursion P xs → AllByRecursion P (select p xs)
  all_select P [] a = tt
  all_select P (x ∷ xs) a = elim (p x) as (λ b. AllByRecursion P (elim b [ true ↦ x ∷ select p xs | false ↦ select p xs ])) [ true ↦ (a.0, all_select P xs a.1) | false ↦ all_select P xs a.1 ]

-- each element of ys is unlike x, by positions and one by one
unlike_all : (xs ys : List ℕ) → Unlike xs ys → AllByRecursion (λ y. (k d : ℕ) → k < length xs → get_or xs k d ≢ y) ys
unlike_all xs ys u = All-from_get_or (λ y. (k d : ℕ) → k < length xs → get_or xs k d ≢ y) ys 0 (λ l h k d g. λ e. u k l 0 g h (get_or_default xs k 0 d g ∙ e))

pub unlike_select : (p : ℕ → Bool) (ys xs : List ℕ) → Unlike ys xs → Unlike ys (select p xs)
unlike_select p ys xs u k l d h g = All-get_or (λ y. (k d : ℕ) → k < length ys → get_or ys k d ≢ y) (select p xs) l d g (all_select p (λ y. (k d : ℕ) → k < length ys → get_or ys k d ≢ y) xs (unlike_all ys xs u)) k d h

-- no number twice: the first and the rest
rest_once : (x : ℕ) (xs : List ℕ) → Pairwise ◌≢◌ (x ∷ xs) → Pairwise ◌≢◌ xs
rest_once x xs q i j d hi hj ne = q (suc i) (suc j) d (omega arith) (omega arith) (λ e. ne (omega arith))

first_once : (x : ℕ) (xs : List ℕ) → Pairwise ◌≢◌ (x ∷ xs) → AllByRecursion (λ y. x ≢ y) xs
first_once x xs q = All-from_get_or (λ y. x ≢ y) xs 0 (λ i h. q 0 (suc i) 0 (omega arith) (omega arith) (λ e. omega arith))

both_once : (x : ℕ) (xs : List ℕ) → AllByRecursion (λ y. x ≢ y) xs → Pairwise ◌≢◌ xs → Pairwise ◌≢◌ (x ∷ xs)
both_once x xs a q zero zero d hi hj ne = absurd (ne refl)
both_once x xs a q zero (suc j) d hi hj ne = All-get_or (λ y. x ≢ y) xs j d (omega arith) a
both_once x xs a q (suc i) zero d hi hj ne = λ e. All-get_or (λ y. x ≢ y) xs i d (omega arith) a (sym e)
both_once x xs a q (suc i) (suc j) d hi hj ne = q i j d (omega arith) (omega arith) (λ e. ne (ap suc e))

pub once_select : (p : ℕ → Bool) (xs : List ℕ) → Pairwise ◌≢◌ xs → Pairwise ◌≢◌ (select p xs)
once_select p [] q = q
once_select p (x ∷ xs) q = elim (p x) as (λ b. Pairwise ◌≢◌ (elim b [ true ↦ x ∷ select p xs | false ↦ select p xs ])) [
  | true ↦ both_once x (select p xs) (all_select p (λ y. x ≢ y) xs (first_once x xs q)) (once_select p xs (rest_once x xs q))
  | false ↦ once_select p xs (rest_once x xs q)
]

pub map_select : {A B : Type 0} (f : A → B) (p : B → Bool) (xs : List A) → map f (select (λ x. p (f x)) xs) ≡ select p (map f xs)
map_select f p [] = refl
map_select f p (x ∷ xs) = elim (p (f x)) as (λ b. map f (elim b [ true ↦ x ∷ select (λ x. p (f x)) xs | false ↦ select (λ x. p (f x)) xs ]) ≡ elim b [ true ↦ f x ∷ select p (map f xs) | false ↦ select p (map f xs) ]) [ true ↦ ap (λ v. f x ∷ v) (map_select f p xs) | false ↦ map_select f p xs ]

-- While the rows of a run are gathered: of those before the i-th number of the table, these stay.
abbrev pub so_far : (InstructionV → Bool) → Tables → Run → ℕ → List ℕ
so_far test t run i = kept_of test t (take (i - run.first) (in_run t.numbers run))

-- they are at the front of the run
pub record Gathered (test : InstructionV → Bool) (before after : Store) (run : Run) (i e : ℕ) : Type 0 where
  pub writes : tables after ≡ rewritten (tables before) run.first (so_far test (tables before) run i)
  pub end : e ≡ run.first + length (so_far test (tables before) run i)
  pub behind : e ≤ i
  pub held : Held after before

module _ (test : InstructionV → Bool) (t : Tables) (run : Run) (fits : run.first + run.count ≤ length t.numbers) where
  abbrev list : List ℕ
  list = in_run t.numbers run

  list_size : length list ≡ run.count
  list_size = length_run run t.numbers fits

  module _ (i : ℕ) (from : run.first ≤ i) (h : i < run.first + run.count) where
    abbrev xs : List ℕ
    xs = so_far test t run i

    -- the number at i, and its row
    abbrev n : ℕ
    n = get_or t.numbers i 0

    so_far_le : run.first + length xs ≤ i
    so_far_le = let l = length_select (λ m. test (instruction_at (rows t) m)) (take (i - run.first) list) in let m : length (take (i - run.first) list) ≡ i - run.first = length-take-le (i - run.first) list (omega (arith, list_size)) in omega arith

    size : length (paste t.numbers run.first xs (length xs)) ≡ length t.numbers
    size = length-paste t.numbers run.first xs (length xs) (omega (arith, so_far_le)) (omega arith)

    -- it is still where it was
    pub row_read : get_or (paste t.numbers run.first xs (length xs)) i 0 ≡ n
    row_read = getD_paste_after t.numbers run.first xs (length xs) i 0 so_far_le (omega arith) (omega arith)

    row_listed : get_or list (i - run.first) 0 ≡ n
    row_listed = getD_run run t.numbers (i - run.first) 0 (omega arith) ∙ (let e : run.first + (i - run.first) ≡ i = omega arith in ap (λ k. get_or t.numbers k 0) e)

    pub row_used : (P : ℕ → Type 0) → AllByRecursion P list → P n
    row_used P a = subst P row_listed (All-get_or P list (i - run.first) 0 (omega (arith, list_size)) a)

    more : so_far test t run (i + 1) ≡ xs ++ kept_of test t (n ∷ [])
    more =
        (let e : i + 1 - run.first ≡ i - run.first + 1 = omega arith in ap (λ k. kept_of test t (take k list)) e)
        ∙ ap (kept_of test t) (take_more list (i - run.first) 0 (omega (arith, list_size)))
        ∙ select_append (λ m. test (instruction_at (rows t) m)) (take (i - run.first) list) (get_or list (i - run.first) 0 ∷ [])
        ∙ ap (λ m. xs ++ kept_of test t (m ∷ [])) row_listed

    pub stays_more : test (instruction_at (rows t) n) ≡ true → so_far test t run (i + 1) ≡ xs ++ (n ∷ [])
    stays_more e = more ∙ ap (λ v. xs ++ v) (select_one (λ m. test (instruction_at (rows t) m)) n e)

    pub goes_more : test (instruction_at (rows t) n) ≡ false → so_far test t run (i + 1) ≡ xs
    goes_more e = more ∙ ap (λ v. xs ++ v) (select_none (λ m. test (instruction_at (rows t) m)) n e) ∙ append-nil xs

    -- it is written behind those that stayed
    pub written_more : set (paste t.numbers run.first xs (length xs)) (run.first + length xs) n ≡ paste t.numbers run.first (xs ++ (n ∷ [])) (length (xs ++ (n ∷ [])))
    written_more =
        set_paste (paste t.numbers run.first xs (length xs)) (run.first + length xs) n (omega (arith, so_far_le, size))
        ∙ pasted_both t.numbers run.first (length xs) xs (n ∷ []) refl (omega arith)

    pub readable_still : Readable t → Readable (rewritten t run.first xs)
    readable_still w = record { counted = let c = w.counted in record { text = c.text; identifiers = c.identifiers; places = c.places; instructions = c.instructions; numbers = record { in_table = omega (arith, c.numbers.in_table, size); in_limit = c.numbers.in_limit }; blocks = c.blocks; functions = c.functions }; places = w.places; instructions = w.instructions }
