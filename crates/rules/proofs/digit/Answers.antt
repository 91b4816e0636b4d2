use Rattle.std.proofs.Common.{refl}
use Rattle.rules.proofs.digit.Goals as goal
use Rattle.rules.proofs.Numerals.{numeral_decimal}

pub returns : goal.returns
returns c = record { byte = refl; decimal = numeral_decimal }
