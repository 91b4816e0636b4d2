-- The counts of several walks together.
use Rattle.std.specs.Prelude.{ℕ, List}
use Rattle.rules.specs.Lists.{gathered}
use Rattle.rules.specs.Views.{Hir, function_at}
use Rattle.rules.specs.Drawn.{on_walk}
use Rattle.laws.specs.Allowances.{Counts, function_counts, tally}

-- the functions on the walks from these functions, to a depth
abbrev pub walks_counts : ℕ → Hir → List ℕ → Counts
walks_counts d h fs = tally (λ g. function_counts (function_at h g)) (gathered (on_walk d h) fs)
