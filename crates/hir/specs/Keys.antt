-- When two keys are the same.
use Rattle.std.specs.Prelude.{Bool, ◌==◌}
use Rattle.rules.specs.Views.{Bytes}
use Rattle.rules.specs.Names.{same_bytes}
use Rattle.hir.specs.declared.rows.IdentifierId.{IdentifierId}
use Rattle.hir.specs.declared.rows.Name.{Name}
use Rattle.hir.specs.View.{spelt}

-- identifiers are the same when their numbers are
abbrev pub same_number : IdentifierId → IdentifierId → Bool
same_number a b = a.0 == b.0

-- names are the same when their bytes are
abbrev pub same_spelling : Bytes → Name → Name → Bool
same_spelling text a b = same_bytes (spelt text a) (spelt text b)
