-- Eliminations, by what they leave; their laws; keep and sweep.
use Rattle.std.specs.Prelude.{◌≡◌, ℕ, zero, suc, Bool, false, ◌||◌, List, [], ◌∷◌, ◌++◌, map, length}
use Rattle.rules.specs.Lists.{Sublist, select, any, gathered, within, changed}
use Rattle.rules.specs.Views.{InstructionV, BlockV, FunctionV, Hir, identifiers_of, reads, writes, rows_of, still_read, acting, function_at, with_functions, with_rows, with_blocks}

-- An elimination's meaning: the lists that it leaves to the blocks of a function.
abbrev pub Meaning : Type 0
Meaning = Hir → ℕ → List (List InstructionV)

-- the blocks with these lists
abbrev pub listing : List BlockV → List (List InstructionV) → List BlockV
listing [] ls = []
listing (b ∷ bs) [] = b ∷ bs
listing (b ∷ bs) (l ∷ ls) = with_rows b l ∷ listing bs ls

-- the store after it: the blocks of the function have these lists, all else is as it was
abbrev pub eliminated : Meaning → Hir → ℕ → Hir
eliminated m h f = with_functions h (changed (λ (g : FunctionV). with_blocks g (listing g.blocks (m h f))) f h.functions)

-- The laws.

-- does the row write one of these?
abbrev pub writes_one_of : List ℕ → InstructionV → Bool
writes_one_of xs i = any (λ x. within x xs) (writes i)

-- the second list is the first without some rows; a row goes only if it does not act and writes nothing that is then read
pub data Thinned (read : List ℕ) : List InstructionV → List InstructionV → Type 0 where
  none : Thinned read [] []
  stays : {i : InstructionV} {is js : List InstructionV} → Thinned read is js → Thinned read (i ∷ is) (i ∷ js)
  goes : {i : InstructionV} {is js : List InstructionV} → acting i ≡ false → writes_one_of read i ≡ false → Thinned read is js → Thinned read (i ∷ is) js

-- a list for each block, each thinned so
pub data ThinnedAll (read : List ℕ) : List BlockV → List (List InstructionV) → Type 0 where
  no_block : ThinnedAll read [] []
  block : {b : BlockV} {js : List InstructionV} {bs : List BlockV} {ls : List (List InstructionV)} → Thinned read b.rows js → ThinnedAll read bs ls → ThinnedAll read (b ∷ bs) (js ∷ ls)

-- what is read is what terminals and listed rows read when it is done
abbrev pub Lawful : Meaning → Type 0
Lawful m = (h : Hir) (f : ℕ) → ThinnedAll (still_read (listing (function_at h f).blocks (m h f))) (function_at h f).blocks (m h f)

-- Keep leaves every list as it is.

-- the lists of these blocks
abbrev pub lists : List BlockV → List (List InstructionV)
lists [] = []
lists (b ∷ bs) = b.rows ∷ lists bs

-- all of them, for a function
abbrev pub keep : Meaning
keep h f = lists (function_at h f).blocks

-- Sweep: starting from nothing needed, rounds of keeping what acts or writes something needed, and of needing what terminals and the kept
-- rows read, until nothing changes.

-- a row is kept if it acts or writes something needed
abbrev pub sweep_keeps : Bool → Bool → Bool
sweep_keeps acts needed = acts || needed

-- is the row kept, where these identifiers are needed?
abbrev pub kept : List ℕ → InstructionV → Bool
kept xs i = sweep_keeps (acting i) (writes_one_of xs i)

-- what the terminals read
abbrev pub terminal_reads : List BlockV → List ℕ
terminal_reads [] = []
terminal_reads (b ∷ bs) = identifiers_of b.places ++ terminal_reads bs

-- what is needed after n rounds: what terminals and the rows kept so far read
abbrev pub needed : ℕ → List BlockV → List ℕ → List ℕ
needed zero bs xs = xs
needed (suc n) bs xs = needed n bs (terminal_reads bs ++ gathered reads (select (kept xs) (rows_of bs)))

-- each round but the last keeps a row more, so one round more than there are rows is enough
abbrev pub sweep : Meaning
sweep h f =
    let bs : List BlockV = (function_at h f).blocks in
    map (select (kept (needed (suc (length (rows_of bs))) bs []))) (lists bs)

-- of all lawful eliminations it leaves the fewest rows: each of its lists is a part of the other's
pub data Sublists : List (List InstructionV) → List (List InstructionV) → Type 0 where
  no_list : Sublists [] []
  list : {is js : List InstructionV} {ls ms : List (List InstructionV)} → Sublist is js → Sublists ls ms → Sublists (is ∷ ls) (js ∷ ms)

-- no lawful elimination leaves less
abbrev pub Least : Meaning → Type 0
Least s = (m : Meaning) → Lawful m → (h : Hir) (f : ℕ) → Sublists (s h f) (m h f)
