-- The lists of a function's blocks made shorter, one after another: what is then seen, and that the store stays well formed.
use Rattle.std.proofs.Common.{◌≡◌, ℕ, zero, suc, ◌+◌, ◌<◌, ◌≤◌, Bool, true, false, List, [], ◌∷◌, ◌++◌, map, length, get_or, take, drop, sym, refl, ap, ◌∙◌, inl, inr, arith, length-append, length-take-le, get_or-take}
use lib.Seq.{paste}
use Rattle.std.proofs.lemmas.List.{get_or_append_left}
use Rattle.rules.specs.Lists.{changed, select, Lists, here, there}
use Rattle.rules.specs.Views.{InstructionV, BlockV, FunctionV, Hir, function_at, no_function, block_rows, rows_of, with_functions, with_blocks, with_rows, with_list}
use Rattle.rules.specs.Eliminations.{eliminated, kept, lists, listing, needed, sweep}
use Rattle.rules.proofs.Positions.{at_changed}
use Rattle.rules.proofs.Membership.{lists_left, lists_right}
use Rattle.hir.specs.declared.rows.Run.{Run}
use Rattle.hir.specs.WellFormed.{RunFits}
use Rattle.dead_code_elimination.proofs.Same.{changed_same}
use Rattle.dead_code_elimination.specs.Elimination.{Outside}
use Rattle.sweep.specs.Marks.{is_marked, kept_by, by_marks, MarksNeeded}
use Rattle.hir.proofs.Runs.{getD_paste_after}

-- what two tests select alike
select_same : (p q : InstructionV → Bool) (is : List InstructionV) → ((i : InstructionV) → Lists is i → p i ≡ q i) → select p is ≡ select q is
select_same p q [] f = refl
select_same p q (i ∷ is) f =
    ap (λ (b : Bool). elim b as (λ _. List InstructionV) [ true ↦ i ∷ select p is | false ↦ select p is ]) (f i here)
    ∙ ap (λ (l : List InstructionV). elim (q i) as (λ _. List InstructionV) [ true ↦ i ∷ l | false ↦ l ]) (select_same p q is (λ j l. f j (there l)))

-- Blocks with some of their lists changed.

listing_none : (bs : List BlockV) → listing bs [] ≡ bs
listing_none [] = refl
listing_none (b ∷ bs) = refl

listing_more : (l : List InstructionV) (bs : List BlockV) (ls : List (List InstructionV)) → changed (λ b. with_rows b l) (length ls) (listing bs ls) ≡ listing bs (ls ++ (l ∷ []))
listing_more l [] [] = refl
listing_more l [] (m ∷ ls) = refl
listing_more l (b ∷ bs) [] = ap (λ (cs : List BlockV). with_rows b l ∷ cs) (sym (listing_none bs))
listing_more l (b ∷ bs) (m ∷ ls) = ap (λ (cs : List BlockV). with_rows b m ∷ cs) (listing_more l bs ls)

pub listing_past : (bs : List BlockV) (ls : List (List InstructionV)) (k : ℕ) → length ls ≤ k → block_rows (listing bs ls) k ≡ block_rows bs k
listing_past [] ls k h = refl
listing_past (b ∷ bs) [] k h = refl
listing_past (b ∷ bs) (l ∷ ls) zero h = absurd (omega arith)
listing_past (b ∷ bs) (l ∷ ls) (suc k) h = listing_past bs ls k (omega arith)

pub lists_long : (bs : List BlockV) → length (lists bs) ≡ length bs
lists_long [] = refl
lists_long (b ∷ bs) = ap suc (lists_long bs)

pub lists_at : (bs : List BlockV) (k : ℕ) → block_rows bs k ≡ get_or (lists bs) k []
lists_at [] k = refl
lists_at (b ∷ bs) zero = refl
lists_at (b ∷ bs) (suc k) = lists_at bs k

changed_twice : {A : Type 0} (F G : A → A) (f : ℕ) (xs : List A) → changed F f (changed G f xs) ≡ changed (λ x. F (G x)) f xs
changed_twice F G f [] = refl
changed_twice F G zero (x ∷ xs) = refl
changed_twice F G (suc f) (x ∷ xs) = ap (λ l. x ∷ l) (changed_twice F G f xs)

-- the store whose function f has these lists
abbrev pub relisted : Hir → ℕ → List (List InstructionV) → Hir
relisted h f ls = with_functions h (changed (λ (g : FunctionV). with_blocks g (listing g.blocks ls)) f h.functions)

pub relisted_more : (h : Hir) (f : ℕ) (ls : List (List InstructionV)) (l : List InstructionV) → with_list (relisted h f ls) f (length ls) l ≡ relisted h f (ls ++ (l ∷ []))
relisted_more h f ls l =
    ap (with_functions h) (changed_twice (λ (g : FunctionV). with_blocks g (changed (λ b. with_rows b l) (length ls) g.blocks)) (λ (g : FunctionV). with_blocks g (listing g.blocks ls)) f h.functions)
    ∙ (λ i. with_functions h (changed (λ (g : FunctionV). with_blocks g (listing_more l g.blocks ls i)) f h.functions))

pub relisted_none : (h : Hir) (f : ℕ) → h ≡ relisted h f []
relisted_none h f = sym (ap (with_functions h) (changed_same (λ (g : FunctionV). with_blocks g (listing g.blocks [])) f h.functions no_function (ap (with_blocks (function_at h f)) (listing_none (function_at h f).blocks))))

pub relisted_blocks : (h : Hir) (f : ℕ) (ls : List (List InstructionV)) → f < length h.functions → (function_at (relisted h f ls) f).blocks ≡ listing (function_at h f).blocks ls
relisted_blocks h f ls l = ap (λ (g : FunctionV). g.blocks) (at_changed (λ (g : FunctionV). with_blocks g (listing g.blocks ls)) f h.functions no_function l)

all_lists_same : (p q : InstructionV → Bool) (bs : List BlockV) → ((i : InstructionV) → Lists (rows_of bs) i → p i ≡ q i) → map (select p) (lists bs) ≡ map (select q) (lists bs)
all_lists_same p q [] f = refl
all_lists_same p q (b ∷ bs) f = λ i. select_same p q b.rows (λ j l. f j (lists_left (rows_of bs) l)) i ∷ all_lists_same p q bs (λ j l. f j (lists_right b.rows l)) i

pub marks_sweep : (marks : List ℕ) (h : Hir) (f : ℕ) → MarksNeeded (function_at h f).blocks marks → eliminated (by_marks marks) h f ≡ eliminated sweep h f
marks_sweep marks h f m =
    let bs : List BlockV = (function_at h f).blocks in
    ap (relisted h f) (all_lists_same (kept_by (is_marked marks)) (kept (needed (suc (length (rows_of bs))) bs [])) bs m)

-- numbers written outside the old list stay
pub paste_outside : (d : List ℕ) (run : Run) (s : List ℕ) (n : ℕ) → RunFits run (length d) → length s ≤ run.count → Outside run n → get_or (paste d run.first s (length s)) n 0 ≡ get_or d n 0
paste_outside d run s n fit short (inl l) =
    let a : length (take run.first d) ≡ run.first = length-take-le run.first d (omega arith) in
    let b = length-append (take run.first d) (take (length s) s) in
    get_or_append_left (take run.first d ++ take (length s) s) (drop (run.first + length s) d) 0 n (omega arith)
    ∙ get_or_append_left (take run.first d) (take (length s) s) 0 n (omega arith)
    ∙ get_or-take run.first d n 0 l
paste_outside d run s n fit short (inr l) = getD_paste_after d run.first s (length s) n 0 (omega arith) (omega arith) (omega arith)
