-- Screens that behave as drawn, and the calls that keep them so.
use Rattle.std.specs.Prelude.{◌≡◌, ℕ, zero, suc, ◌<◌, ◌≤◌, Bool, true, false, List, [], ◌∷◌, ◌++◌, length, Some, None, Option, ◌==◌}
use Rattle.rules.specs.Lists.{gathered, backwards, within, Distinct, Lists}
use Rattle.rules.specs.Kinds.{phi_kind}
use Rattle.rules.specs.Views.{Bytes, InstructionV, BlockV, FunctionV, Hir, reads, writes, function_rows, still_read, is_global, is_function, function_at, rows_at}
use Rattle.rules.specs.Names.{borne}
use Rattle.rules.specs.Eliminations.{Meaning, Lawful}
use Rattle.rules.specs.Outline.{outline_jsx, depth}
use Rattle.rules.specs.Runs.{Reading, State, has_tag, run}

-- As drawn.

-- an admitted start knows what the function's other blocks load: where one of them, as filled, loads a global, its value is there
abbrev pub Admitted : {V : Type 0} → Reading V → Hir → ℕ → ℕ → (ℕ → V) → Type 0
Admitted r filled f k e = (j : ℕ) (i : InstructionV) → ¬ (j ≡ k) → Lists (rows_at filled f j) i → is_global i ≡ true → e i.result.identifier ≡ r.global i.name i.detail

-- two ends of a run: the same actions on equal values, and equal values of every filled identifier that is still read
pub record Agree {V : Type 0} (size : ℕ) (read : List ℕ) (s t : State V) : Type 0 where
  pub actions : s.actions ≡ t.actions
  pub value : (x : ℕ) → x < size → within x read ≡ true → s.value x ≡ t.value x

-- A screen is a function of the store as filled. Each of its blocks, run now, does what it did then; still read is what the function's
-- terminals and listed rows read now.
abbrev pub AsDrawn : {V : Type 0} → Reading V → Hir → Hir → Type 0
AsDrawn {V} r filled now = (f k : ℕ) (e : ℕ → V) → f < length filled.functions → Admitted r filled f k e → Agree (length filled.identifiers) (still_read (function_at now f).blocks) (run r filled f k e) (run r now f k e)

-- What the promise needs of an accepted call: less than the refusals leave.

-- what a row reads is not written by it or by later rows, phis aside
abbrev pub Ordered : List InstructionV → Type 0
Ordered [] = Unit
Ordered (i ∷ is) = ((i.kind == phi_kind) ≡ false → (x : ℕ) → within x (reads i) ≡ true → within x (gathered writes (i ∷ is)) ≡ false) × Ordered is

-- so in each block
abbrev pub OrderedBlocks : List BlockV → Type 0
OrderedBlocks [] = Unit
OrderedBlocks (b ∷ bs) = Ordered b.rows × OrderedBlocks bs

-- a function is not an appended one, its listed rows write no identifier twice and name only used ones, and none reads too early
pub record Sound (size : ℕ) (g : FunctionV) : Type 0 where
  pub once : Distinct (gathered writes (function_rows g))
  pub ordered : OrderedBlocks g.blocks
  pub in_range : (i : InstructionV) → Lists (function_rows g) i → (x : ℕ) → within x (reads i ++ writes i) ≡ true → x < size
  pub own : g.appended ≡ false

-- the inner functions of these rows, in order
abbrev pub inner : List InstructionV → List ℕ
inner [] = []
inner (i ∷ is) = elim (is_function i) [ true ↦ i.function ∷ inner is | false ↦ inner is ]

-- those of the blocks, each block backwards
abbrev pub inner_of : List BlockV → List ℕ
inner_of [] = []
inner_of (b ∷ bs) = inner (backwards b.rows) ++ inner_of bs

-- the functions on the walk in the order that it reaches them, each as often as it is reached
abbrev pub on_walk : ℕ → Hir → ℕ → List ℕ
on_walk zero h f = []
on_walk (suc d) h f = f ∷ gathered (on_walk d h) (inner_of (function_at h f).blocks)

-- each function on the walk is reached once, used and sound
pub record Accepts (h : Hir) (f : ℕ) : Type 0 where
  pub once : Distinct (on_walk depth h f)
  pub used : (g : ℕ) → within g (on_walk depth h f) ≡ true → g < length h.functions
  pub sound : (g : ℕ) → within g (on_walk depth h f) ≡ true → Sound (length h.identifiers) (function_at h g)

-- Lists of calls.

-- what a call may end with: refused, the store as it was; accepted, what the rules name, for some lawful elimination
pub data Ends (h h' : Hir) : Type 0 where
  refused : h' ≡ h → Ends h h'
  accepted : (m : Meaning) (f : ℕ) → Lawful m → Accepts h f → h' ≡ (outline_jsx m h f).hir → Ends h h'

-- what any list of calls may leave
pub data After (filled : Hir) : Hir → Type 0 where
  at_first : After filled filled
  next : {h h' : Hir} → After filled h → Ends h h' → After filled h'

-- a name, if there is one, that passes the test
abbrev pub Borne : Option Bytes → (Bytes → Bool) → Type 0
Borne None bears = Unit
Borne (Some n) bears = bears n ≡ true

-- rows bear no more names than there are rows
pub record FewBorne (h : Hir) : Type 0 where
  pub names : List Bytes
  pub few : length names ≤ h.used_rows
  pub all : (n : Bytes) → h.bears n ≡ true → borne n names ≡ true

-- A store as the host fills it: no function is appended, no tag was taken, and what rows bear is told of every listed load.
pub record Filled (h : Hir) : Type 0 where
  pub own : (f : ℕ) → (function_at h f).appended ≡ false
  pub counter : h.counter ≡ 0
  pub mark : h.mark ≡ 0
  pub loads : (f : ℕ) (i : InstructionV) → Lists (function_rows (function_at h f)) i → is_global i ≡ true → Borne i.name h.bears
  pub few : FewBorne h

-- The promise: after any list of calls on a filled store, whatever the reading, every screen behaves as drawn.
abbrev pub EveryScreenAsDrawn : Type 0 → Type 0
EveryScreenAsDrawn V = (filled h : Hir) → Filled filled → After filled h → (r : Reading V) → AsDrawn r filled h

-- The same in the form that a call can promise of its entry and its exit: if the entry is what calls on some filled store left, then so is
-- the exit, and every screen of that store still behaves as drawn.
abbrev pub StaysAsDrawn : Type 0 → Hir → Hir → Type 0
StaysAsDrawn V h h' = (filled : Hir) → Filled filled → After filled h → After filled h' × ((r : Reading V) → AsDrawn r filled h')

-- which every call does
abbrev pub EveryCallKeepsIt : Type 0 → Type 0
EveryCallKeepsIt V = (h h' : Hir) → Ends h h' → StaysAsDrawn V h h'

-- and no two appended functions bear the same tag
abbrev pub EveryTagOnce : Type 0
EveryTagOnce = (filled h : Hir) → Filled filled → After filled h → (f g : ℕ) (n : Option Bytes) → has_tag (function_at h f) n ≡ true → has_tag (function_at h g) n ≡ true → f ≡ g
