-- The mark bytes, by what they mark, and what each step of sweep makes of them. An identifier is needed if a terminal or a kept row reads it.
use Rattle.std.specs.Prelude.{◌≡◌, ℕ, zero, suc, ◌+◌, ◌<◌, Bool, true, false, not, List, [], ◌∷◌, map, length, ◌==◌, nat_eq, nat_le, slice_index, slice_set}
use Rattle.std.specs.List.{AllByRecursion}
use Rattle.rules.specs.Lists.{any, select, Lists}
use Rattle.rules.specs.Kinds.{acts}
use Rattle.rules.specs.Views.{PlaceV, InstructionV, BlockV, acting, function_at, identifiers_of, reads, rows_of, writes}
use Rattle.rules.specs.Eliminations.{Meaning, kept, lists, needed, sweep_keeps}
use Rattle.hir.specs.declared.rows.Place.{Place}
use Rattle.hir.specs.declared.rows.Instruction.{Instruction}
use Rattle.hir.specs.declared.rows.BasicBlock.{BasicBlock}
use Rattle.hir.specs.Tables.{Tables}
use Rattle.hir.specs.View.{rows}
use Rattle.hir.specs.WellFormed.{RunFits}

-- is the identifier marked?
abbrev pub is_marked : List ℕ → ℕ → Bool
is_marked marks x = not (slice_index marks x == 0)

-- how many are not
abbrev pub unmarked_one : ℕ → ℕ
unmarked_one zero = 1
unmarked_one (suc m) = 0

abbrev pub unmarked : List ℕ → ℕ
unmarked [] = 0
unmarked (m ∷ marks) = unmarked_one m + unmarked marks

-- one more marked
abbrev pub with_mark : List ℕ → ℕ → List ℕ
with_mark marks x = elim (slice_index marks x == 0) [ true ↦ slice_set marks x 1 | false ↦ marks ]

-- and several
abbrev pub with_marks : List ℕ → List ℕ → List ℕ
with_marks marks [] = marks
with_marks marks (x ∷ xs) = with_marks (with_mark marks x) xs

-- Places as the table has them.

-- the identifiers of these places
abbrev pub ids : List Place → List ℕ
ids [] = []
ids (p ∷ ps) = p.identifier.0 ∷ ids ps

-- those that are read, and those that are written
abbrev pub ids_read : List Place → List ℕ
ids_read ps = ids (select (λ (p : Place). nat_le p.role 4) ps)

abbrev pub ids_written : List Place → List ℕ
ids_written ps = ids (select (λ (p : Place). nat_eq p.role 5) ps)

-- there is a mark byte for each
abbrev pub IdsFit : List ℕ → List Place → Type 0
IdsFit marks ps = AllByRecursion (λ (p : Place). p.identifier.0 < length marks) ps

-- Rows.

-- is the row kept, if these are needed? It is if it acts or writes one of them.
unfoldable pub kept_by : (ℕ → Bool) → InstructionV → Bool
kept_by needed i = sweep_keeps (acting i) (any needed (writes i))

-- the same of a row and its places as the tables have them
abbrev pub row_kept : List ℕ → Instruction → List Place → Bool
row_kept marks row ps = sweep_keeps (acts row.kind) (any (is_marked marks) (row.result.identifier.0 ∷ ids_written ps))

-- One row is passed: if it is kept, what it reads is needed.
abbrev pub passed : List ℕ → InstructionV → List ℕ
passed marks i = elim (kept_by (is_marked marks) i) [ true ↦ with_marks marks (reads i) | false ↦ marks ]

-- The rows of a list, from the last to the first.
abbrev pub all_passed : List ℕ → List InstructionV → List ℕ
all_passed marks [] = marks
all_passed marks (i ∷ is) = passed (all_passed marks is) i

-- A round: the lists of these blocks, from the last block to the first.
abbrev pub round_passed : List ℕ → List BlockV → List ℕ
round_passed marks [] = marks
round_passed marks (b ∷ bs) = all_passed (round_passed marks bs) b.rows

-- the places of the k-th block's terminal
abbrev pub terminal_at : List BlockV → ℕ → List PlaceV
terminal_at [] k = []
terminal_at (b ∷ bs) zero = b.places
terminal_at (b ∷ bs) (suc k) = terminal_at bs k

-- What the terminals read, from the last block to the first.
abbrev pub terminals_marked : List ℕ → List BlockV → List ℕ
terminals_marked marks [] = marks
terminals_marked marks (b ∷ bs) = with_marks (terminals_marked marks bs) (identifiers_of b.places)

-- The marks keep just the rows of these blocks that sweep keeps.
abbrev pub MarksNeeded : List BlockV → List ℕ → Type 0
MarksNeeded bs marks = (i : InstructionV) → Lists (rows_of bs) i → kept_by (is_marked marks) i ≡ kept (needed (suc (length (rows_of bs))) bs []) i

-- The meaning of marks: each list, without the rows that they do not keep.
abbrev pub by_marks : List ℕ → Meaning
by_marks marks h f = map (select (kept_by (is_marked marks))) (lists (function_at h f).blocks)

-- The places of each terminal are used.
abbrev pub TerminalsFit : Tables → Type 0
TerminalsFit t = AllByRecursion (λ (b : BasicBlock). RunFits b.places t.counts.places) (rows t).blocks
