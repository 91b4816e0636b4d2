-- What a run covers: in a longer list, after a write beside it, after a write in it.
use Rattle.std.proofs.Common.{◌≡◌, ℕ, ◌+◌, ◌-◌, ◌<◌, ◌≤◌, ◌≢◌, ◌⊎◌, List, [], ◌∷◌, ◌++◌, length, get_or, take, drop, set, sym, refl, ap, ◌∙◌, inl, inr, append-nil, add-one, arith, length-append, length-drop, take-append-drop, length-take, length-take-le, get_or-take, drop-drop, take_at, drop-set-lt, drop_at}
use lib.Seq.{take-append-le, drop-append-le, take-set-lt, take-set-le, drop-set-add, take-length, paste, paste-zero, drop-paste, take-paste}
use Rattle.std.proofs.lemmas.List.{get_or_append_left, get_or-drop, set_split}
use Rattle.std.proofs.lemmas.List.Edits.{paste_all, paste-paste}
use Rattle.hir.specs.declared.rows.Run.{Run}
use Rattle.hir.specs.Used.{in_run}
use Rattle.hir.specs.WellFormed.{RunFits, Clear}

abbrev pub run_of : ℕ → ℕ → Run
run_of f c = record { first = f; count = c }

pub run_more : {A : Type 0} (run : Run) (xs ys : List A) → RunFits run (length xs) → in_run (xs ++ ys) run ≡ in_run xs run
run_more run xs ys h =
    let a : run.first ≤ length xs = omega arith in
    let b : run.count ≤ length (drop run.first xs) = simp length-drop (omega arith) in
    ap (take run.count) (drop-append-le run.first xs ys a) ∙ take-append-le run.count (drop run.first xs) ys b

-- the rows that were appended
pub run_last : {A : Type 0} (f c : ℕ) (xs ys : List A) → f ≡ length xs → c ≡ length ys → in_run (xs ++ ys) (run_of f c) ≡ ys
run_last f c xs ys p q =
    ap (take c) (drop_at xs ys f (sym p)) ∙ ap (take c) (sym (append-nil ys)) ∙ take_at ys [] c (sym q)

pub length_run : {A : Type 0} (run : Run) (xs : List A) → RunFits run (length xs) → length (in_run xs run) ≡ run.count
length_run run xs h = simp (length-take, length-drop) (omega arith)

pub getD_run : {A : Type 0} (run : Run) (xs : List A) (k : ℕ) (d : A) → k < run.count → get_or (in_run xs run) k d ≡ get_or xs (run.first + k) d
getD_run run xs k d h = get_or-take run.count (drop run.first xs) k d h ∙ get_or-drop run.first xs k d

pub covers : {A : Type 0} (run : Run) (xs : List A) (k : ℕ) → k < length (in_run xs run) → (k < run.count) × (run.first + k < length xs)
covers run xs k h = let e = length-take run.count (drop run.first xs) in let g = length-drop run.first xs in (omega arith, omega arith)

pub covered : {A : Type 0} (run : Run) (xs : List A) (k : ℕ) → k < run.count → run.first + k < length xs → k < length (in_run xs run)
covered run xs k h l = simp (length-take, length-drop) (omega arith)

-- among the used rows, and in the whole table
pub run_used : {A : Type 0} (run : Run) (u : ℕ) (xs : List A) → RunFits run (length (take u xs)) → in_run (take u xs) run ≡ in_run xs run
run_used run u xs h = sym (run_more run (take u xs) (drop u xs) h) ∙ ap (λ v. in_run v run) (take-append-drop u xs)

-- a row written outside the run, and in it
pub run_set_outside : {A : Type 0} (run : Run) (n : ℕ) (xs : List A) (y : A) → (n < run.first) ⊎ (run.first + run.count ≤ n) → in_run (set xs n y) run ≡ in_run xs run
run_set_outside run n xs y (inl h) = ap (take run.count) (drop-set-lt run.first xs n y h)
run_set_outside run n xs y (inr h) =
    let k : ℕ = n - run.first in
    let e : n ≡ run.first + k = omega arith in
    ap (λ m. in_run (set xs m y) run) e ∙ ap (take run.count) (drop-set-add run.first xs k y) ∙ take-set-le run.count (drop run.first xs) k y (omega arith)

pub run_set_inside : {A : Type 0} (run : Run) (k : ℕ) (xs : List A) (y : A) → k < run.count → in_run (set xs (run.first + k) y) run ≡ set (in_run xs run) k y
run_set_inside run k xs y h = ap (take run.count) (drop-set-add run.first xs k y) ∙ take-set-lt run.count (drop run.first xs) k y h

pub drop_less : {A : Type 0} (m n : ℕ) (xs ys : List A) → m ≤ n → drop m xs ≡ drop m ys → drop n xs ≡ drop n ys
drop_less m n xs ys h e = let k : n ≡ m + (n - m) = omega arith in ap (λ v. drop v xs) k ∙ sym (drop-drop (n - m) m xs) ∙ ap (drop (n - m)) e ∙ drop-drop (n - m) m ys ∙ ap (λ v. drop v ys) (sym k)

-- several rows written in b, no more than b covers, leave what a covers
pub run_clear : {A : Type 0} (a b : Run) (xs ns : List A) → Clear a b → length ns ≤ b.count → RunFits b (length xs) → in_run (paste xs b.first ns (length ns)) a ≡ in_run xs a
run_clear a b xs ns (inl z) s h = (λ i. in_run (paste xs b.first ns (length ns)) (run_of a.first (z i))) ∙ sym (λ i. in_run xs (run_of a.first (z i)))
run_clear a b xs ns (inr (inl z)) s h = let e : length ns ≡ 0 = omega arith in ap (λ n. in_run (paste xs b.first ns n) a) e ∙ ap (λ v. in_run v a) (sym (paste-zero xs b.first ns))
run_clear a b xs ns (inr (inr (inl l))) s h =
    let m : length (take b.first xs) ≡ b.first = length-take-le b.first xs (omega arith) in
    let n = length-append (take b.first xs) (take (length ns) ns) in
    run_more a (take b.first xs ++ take (length ns) ns) (drop (b.first + length ns) xs) (omega arith)
    ∙ run_more a (take b.first xs) (take (length ns) ns) (omega arith)
    ∙ sym (run_more a (take b.first xs) (drop b.first xs) (omega arith))
    ∙ ap (λ v. in_run v a) (take-append-drop b.first xs)
run_clear a b xs ns (inr (inr (inr l))) s h =
    ap (take a.count) (drop_less (b.first + length ns) a.first (paste xs b.first ns (length ns)) xs (omega arith) (drop-paste xs b.first ns (length ns) (omega arith) (omega arith)))

-- what was written
pub run_written : {A : Type 0} (f : ℕ) (xs ns : List A) → f + length ns ≤ length xs → in_run (paste xs f ns (length ns)) (run_of f (length ns)) ≡ ns
run_written f xs ns h =
    let m : length (take f xs) ≡ f = length-take-le f xs (omega arith) in
    let z : length (take (length ns) ns) ≡ length ns = ap length (take-length ns) in
    let n = length-append (take f xs) (take (length ns) ns) in
    run_more (run_of f (length ns)) (take f xs ++ take (length ns) ns) (drop (f + length ns) xs) (omega arith)
    ∙ run_last f (length ns) (take f xs) (take (length ns) ns) (sym m) (sym z) ∙ take-length ns

-- rows written at the end of the used ones
pub take_written : {A : Type 0} (l : List A) (n : ℕ) (xs : List A) → n + length xs ≤ length l → take (n + length xs) (paste l n xs (length xs)) ≡ take n l ++ xs
take_written l n xs h = take-paste l n xs (length xs) (omega arith) (omega arith) ∙ ap (λ v. take n l ++ v) (take-length xs)

-- clearness goes both ways
pub clear_other_way : (a b : Run) → Clear a b → Clear b a
clear_other_way a b (inl z) = inr (inl z)
clear_other_way a b (inr (inl z)) = inl z
clear_other_way a b (inr (inr (inl l))) = inr (inr (inr l))
clear_other_way a b (inr (inr (inr l))) = inr (inr (inl l))

-- a row of b written, when a is clear of b
pub run_set_clear : {A : Type 0} (a b : Run) (k : ℕ) (xs : List A) (y : A) → Clear a b → k < b.count → in_run (set xs (b.first + k) y) a ≡ in_run xs a
run_set_clear a b k xs y (inl z) h = (λ i. in_run (set xs (b.first + k) y) (run_of a.first (z i))) ∙ sym (λ i. in_run xs (run_of a.first (z i)))
run_set_clear a b k xs y (inr (inl z)) h = absurd (omega arith)
run_set_clear a b k xs y (inr (inr (inl l))) h = run_set_outside a (b.first + k) xs y (inr (omega arith))
run_set_clear a b k xs y (inr (inr (inr l))) h = run_set_outside a (b.first + k) xs y (inl (omega arith))

pub clear_unlike : (a b : Run) (j k : ℕ) → Clear a b → j < a.count → k < b.count → a.first + j ≢ b.first + k
clear_unlike a b j k (inl z) h g e = omega arith
clear_unlike a b j k (inr (inl z)) h g e = omega arith
clear_unlike a b j k (inr (inr (inl l))) h g e = omega arith
clear_unlike a b j k (inr (inr (inr l))) h g e = omega arith

-- a run past the used rows is clear of those within them
pub clear_past : (a : Run) (used count : ℕ) → RunFits a used → Clear a (run_of used count)
clear_past a used count h = inr (inr (inl h))

pub clear_shorter : (a b : Run) (n : ℕ) → Clear a b → n ≤ b.count → Clear a (run_of b.first n)
clear_shorter a b n (inl z) h = inl z
clear_shorter a b n (inr (inl z)) h = inr (inl (omega arith))
clear_shorter a b n (inr (inr (inl l))) h = inr (inr (inl l))
clear_shorter a b n (inr (inr (inr l))) h = inr (inr (inr (omega arith)))

-- Rows pasted into a list: those before and after them stand; others right after them; one row more.

pub getD_paste_before : {A : Type 0} (d : List A) (at : ℕ) (s : List A) (n j : ℕ) (z : A) → j < at → at ≤ length d → get_or (paste d at s n) j z ≡ get_or d j z
getD_paste_before d at s n j z h l =
    let e : length (take at d) ≡ at = length-take-le at d l in
    get_or_append_left (take at d ++ take n s) (drop (at + n) d) z j (simp length-append (omega arith))
    ∙ get_or_append_left (take at d) (take n s) z j (omega arith) ∙ get_or-take at d j z h

pub getD_paste_after : {A : Type 0} (d : List A) (at : ℕ) (s : List A) (n j : ℕ) (z : A) → at + n ≤ j → at ≤ length d → n ≤ length s → get_or (paste d at s n) j z ≡ get_or d j z
getD_paste_after d at s n j z h l m =
    let k : ℕ = j - (at + n) in
    let e : j ≡ at + n + k = omega arith in
    ap (λ v. get_or (paste d at s n) v z) e ∙ sym (get_or-drop (at + n) (paste d at s n) k z) ∙ ap (λ v. get_or v k z) (drop-paste d at s n l m) ∙ get_or-drop (at + n) d k z ∙ ap (λ v. get_or d v z) (sym e)

pub pasted_both : {A : Type 0} (d : List A) (at n : ℕ) (s t : List A) → n ≡ length s → at ≤ length d → paste (paste d at s n) (at + n) t (length t) ≡ paste d at (s ++ t) (length (s ++ t))
pasted_both d at n s t e h = paste-paste d at s t n (length t) e refl h ∙ ap (paste d at (s ++ t)) (ap (λ v. v + length t) e ∙ sym (length-append s t))

pub set_paste : {A : Type 0} (l : List A) (i : ℕ) (a : A) → i < length l → set l i a ≡ paste l i (a ∷ []) 1
set_paste l i a h = rw (set_split l i a h, paste_all l i (a ∷ []) 1 refl, add-one)
