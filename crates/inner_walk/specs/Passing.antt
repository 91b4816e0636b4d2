-- Functions passed on the walk, and the marks that are set for them.
use Rattle.std.specs.Prelude.{◌≡◌, ℕ, ◌<◌, true, false, ◌⊎◌, List, slice_index}
use Rattle.std.specs.List.{AllByRecursion}
use Rattle.rules.specs.Lists.{gathered, within, Distinct}
use Rattle.rules.specs.Views.{Hir, function_at}
use Rattle.rules.specs.Drawn.{on_walk}
use Rattle.refusals.specs.Walked.{NoDeeper}

-- These functions can be passed: each is there once, is not an appended one, and has no mark yet.
pub record Passable (h : Hir) (fs : List ℕ) (marks : List ℕ) : Type 0 where
  pub once : Distinct fs
  pub own : (g : ℕ) → within g fs ≡ true → (function_at h g).appended ≡ false
  pub free : (g : ℕ) → within g fs ≡ true → slice_index marks g ≡ 0

-- They are passed: now they are marked, and no other mark has changed.
pub record Passed (h : Hir) (fs : List ℕ) (before after : List ℕ) : Type 0 where
  pub able : Passable h fs before
  pub marked : (g : ℕ) → within g fs ≡ true → 0 < slice_index after g
  pub kept : (x : ℕ) → 0 < slice_index before x → 0 < slice_index after x
  pub only : (x : ℕ) → 0 < slice_index after x → (0 < slice_index before x) ⊎ (within x fs ≡ true)

-- The walk from a function, so deep at most, can be gone and is gone.
pub record Walkable (d : ℕ) (h : Hir) (f : ℕ) (marks : List ℕ) : Type 0 where
  pub deep : NoDeeper d h f
  pub able : Passable h (on_walk d h f) marks

pub record Walks (d : ℕ) (h : Hir) (f : ℕ) (before after : List ℕ) : Type 0 where
  pub deep : NoDeeper d h f
  pub passed : Passed h (on_walk d h f) before after

-- The same of the walks from several functions, one after another.
pub record AllWalkable (d : ℕ) (h : Hir) (fs : List ℕ) (marks : List ℕ) : Type 0 where
  pub deep : AllByRecursion (NoDeeper d h) fs
  pub able : Passable h (gathered (on_walk d h) fs) marks

pub record AllWalked (d : ℕ) (h : Hir) (fs : List ℕ) (before after : List ℕ) : Type 0 where
  pub deep : AllByRecursion (NoDeeper d h) fs
  pub passed : Passed h (gathered (on_walk d h) fs) before after
