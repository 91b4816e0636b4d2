-- What a step of marking leaves.
use Rattle.std.specs.Prelude.{◌≡◌, ℕ, ◌+◌, List}
use Rattle.sweep.specs.declared.mark.Marking.{Marking}
use Rattle.sweep.specs.Marks.{unmarked}

-- the same function, and the same bytes, which now are these marks
pub record LeavesMarks (old new : Marking) (ms : List ℕ) : Type 0 where
  pub function : new.function ≡ old.function
  pub held : new.marks.ghost_name ≡ old.marks.ghost_name
  pub marks : new.marks.now ≡ ms

-- and so many identifiers newly marked
pub record HasMarked (old new : Marking) (ms : List ℕ) (n : ℕ) : Type 0 where
  pub leaves : LeavesMarks old new ms
  pub newly : n + unmarked new.marks.now ≡ unmarked old.marks.now
