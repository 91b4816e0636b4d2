-- What the report of an outline counts.
use Rattle.std.specs.Prelude.{◌≡◌, ℕ, ◌+◌, ◌<◌, ◌≤◌, Bool, true, List, [], ◌∷◌, length, drop, ◌==◌}
use Rattle.rules.specs.Lists.{select, gathered}
use Rattle.rules.specs.Kinds.{destructure_kind}
use Rattle.rules.specs.Views.{InstructionV, FunctionV, Hir, is_written, function_rows, function_at}
use Rattle.rules.specs.Emit.{Outcome}
use Rattle.rules.specs.Eliminations.{Meaning, Lawful}
use Rattle.rules.specs.Outline.{outline_jsx}
use Rattle.rules.specs.Drawn.{Accepts}

abbrev pub is_destructure : InstructionV → Bool
is_destructure i = i.kind == destructure_kind

-- the written places of a function's Destructure rows, and of all such rows of some functions
abbrev pub properties_of : FunctionV → ℕ
properties_of f = length (select is_written (gathered (λ (i : InstructionV). i.places) (select is_destructure (function_rows f))))

abbrev pub properties_in : List FunctionV → ℕ
properties_in [] = 0
properties_in (f ∷ fs) = properties_of f + properties_in fs

-- a tag is put on a function or abandoned
abbrev pub tags_of : ℕ → ℕ → ℕ
tags_of functions abandoned = functions + abandoned

-- Functions are those appended: as many as there are more, and each of the new ones bears the mark of an appended one. Every tag taken
-- is put on a function or abandoned.
pub record Counted (h : Hir) (o : Outcome) : Type 0 where
  pub functions : length o.hir.functions ≡ length h.functions + o.report.functions
  pub appended : (f : ℕ) → length h.functions ≤ f → f < length o.hir.functions → (function_at o.hir f).appended ≡ true
  pub tags : o.hir.counter ≡ h.counter + tags_of o.report.functions o.report.abandoned

-- of every outline, whatever the elimination
abbrev pub EveryReportCounts : Type 0
EveryReportCounts = (m : Meaning) (h : Hir) (f : ℕ) → Counted h (outline_jsx m h f)

-- Properties are the written places of the Destructure rows of the functions appended. A lawful elimination on an accepted function is
-- needed: any other could have the walk come to an appended function.
abbrev pub EveryPropertyCounted : Type 0
EveryPropertyCounted = (m : Meaning) → Lawful m → (h : Hir) (f : ℕ) → Accepts h f → (outline_jsx m h f).report.properties ≡ properties_in (drop (length h.functions) (outline_jsx m h f).hir.functions)
