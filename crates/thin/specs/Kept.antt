-- The rows of a list that stay.
use Rattle.std.specs.Prelude.{ℕ, Bool, List, length}
use Rattle.std.proofs.Math.Seq.{paste}
use Rattle.rules.specs.Lists.{select}
use Rattle.rules.specs.Views.{InstructionV}
use Rattle.hir.specs.Used.{in_run}
use Rattle.hir.specs.Tables.{Tables, hold_numbers}
use Rattle.hir.specs.View.{rows, instruction_at}
use Rattle.hir.specs.Lists.{block_of}

-- the numbers whose rows pass the test
abbrev pub kept_of : (InstructionV → Bool) → Tables → List ℕ → List ℕ
kept_of test t ns = select (λ n. test (instruction_at (rows t) n)) ns

-- those of the k-th block of function f
abbrev pub kept_numbers : (InstructionV → Bool) → Tables → ℕ → ℕ → List ℕ
kept_numbers test t f k = kept_of test t (in_run (rows t).numbers (block_of t f k).instructions)

-- numbers written over others, from a place on
abbrev pub rewritten : Tables → ℕ → List ℕ → Tables
rewritten t first xs = hold_numbers t t.counts (paste t.numbers first xs (length xs))
