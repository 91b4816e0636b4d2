-- How a number of the tables is shown.
use Rattle.std.specs.Prelude.{ℕ, List, codes, Option, Some, Result, Ok, Err}

-- what is shown for a number that has no name
abbrev pub unknown : List ℕ
unknown = codes "?"

-- the name of the kind that a number is read as, or a question mark where it is not read
abbrev pub named_output : {K E : Type 0} → (K → Option (List ℕ)) → Result K E → Option (List ℕ)
named_output output (Ok kind) = output kind
named_output output (Err e) = Some unknown
