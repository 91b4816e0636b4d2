-- What places are for and what uses do, by number.
use Rattle.std.specs.Prelude.{ℕ}
use Rattle.kinds.specs.declared.roles.Role.{Role}
use Rattle.kinds.specs.declared.roles.Effect.{Effect}

abbrev pub number_of_role : Role → ℕ
number_of_role Role.Read = 0
number_of_role Role.Tag = 1
number_of_role Role.Attribute = 2
number_of_role Role.Spread = 3
number_of_role Role.Child = 4
number_of_role Role.Written = 5

abbrev pub number_of_effect : Effect → ℕ
number_of_effect Effect.Unknown = 0
number_of_effect Effect.Freeze = 1
number_of_effect Effect.Read = 2
number_of_effect Effect.Capture = 3
number_of_effect Effect.ConditionallyMutateIterator = 4
number_of_effect Effect.ConditionallyMutate = 5
number_of_effect Effect.Mutate = 6
number_of_effect Effect.Store = 7
