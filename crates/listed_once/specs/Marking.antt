-- Marks that are set where runs lie.
use Rattle.std.specs.Prelude.{◌≡◌, ℕ, ◌+◌, ◌-◌, ◌<◌, cond, ◌≢◌, ◌⊎◌, List, length, nat_lt, slice_index, slice_index_or}
use Rattle.hir.specs.declared.rows.Run.{Run}
use Rattle.hir.specs.declared.rows.BasicBlock.{BasicBlock}
use Rattle.hir.specs.View.{null_block}
use Rattle.hir.specs.WellFormed.{Clear, RunFits}

-- no mark is set
abbrev pub NoMarks : List ℕ → Type 0
NoMarks marks = (x : ℕ) → slice_index marks x ≡ 0

-- no mark of the run is set
abbrev pub Unmarked : Run → List ℕ → Type 0
Unmarked run marks = (k : ℕ) → k < run.count → slice_index marks (run.first + k) ≡ 0

-- The marks of the run were free and are now set, and no other mark has changed.
pub record MarksRun (run : Run) (before after : List ℕ) : Type 0 where
  pub free : Unmarked run before
  pub marked : (k : ℕ) → k < run.count → 0 < slice_index after (run.first + k)
  pub kept : (x : ℕ) → 0 < slice_index before x → 0 < slice_index after x
  pub only : (x : ℕ) → 0 < slice_index after x → (0 < slice_index before x) ⊎ ((k : ℕ) × (k < run.count) × (run.first + k ≡ x))

-- any two of the first n runs share no number
abbrev pub AllClear : (ℕ → Run) → ℕ → Type 0
AllClear run n = (a b : ℕ) → a < n → b < n → a ≢ b → Clear (run a) (run b)

-- The marks after the first n runs, which share no number: what they cover is marked, and nothing else.
pub record Marked (run : ℕ → Run) (n : ℕ) (ms : List ℕ) : Type 0 where
  pub apart : AllClear run n
  pub marked : (a k : ℕ) → a < n → k < (run a).count → 0 < slice_index ms ((run a).first + k)
  pub seen : (x : ℕ) → 0 < slice_index ms x → (a : ℕ) × (k : ℕ) × (a < n) × (k < (run a).count) × ((run a).first + k ≡ x)

-- whatever run is given for a row lies within this many numbers
abbrev pub RunsFit : {T : Type 0} → (T → Run → Type 0) → List T → ℕ → Type 0
RunsFit {T} Gives rows size = (i : ℕ) (d : T) (r : Run) → i < length rows → Gives (slice_index_or rows i d) r → RunFits r size

-- what is given for the rows are these runs, from number n on
abbrev pub RunsAre : {T : Type 0} → (T → Run → Type 0) → List T → (ℕ → Run) → ℕ → Type 0
RunsAre {T} Gives rows run n = (i : ℕ) (d : T) (r : Run) → i < length rows → Gives (slice_index_or rows i d) r → r ≡ run (n + i)

-- the lists of blocks, and after them their predecessor runs
abbrev pub list_or_preds : List BasicBlock → ℕ → Run
list_or_preds bs j = cond (nat_lt j (length bs)) (slice_index_or bs j null_block).instructions (slice_index_or bs (j - length bs) null_block).preds
