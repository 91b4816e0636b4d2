-- Numbers written in decimal.
use Rattle.std.proofs.Common.{ℕ, ◌^◌, ◌<◌, ◌≤◌, length, ap, arith}
use Rattle.std.proofs.lemmas.Fmt.{length-decimal-le}
use Rattle.rules.specs.Names.{numeral}
use Rattle.rules.proofs.Numerals.{numeral_decimal}

-- a number of 32 bits has ten digits at most
pub length_numeral_le : (n : ℕ) → n < 2 ^ 32 → length (numeral n) ≤ 10
length_numeral_le n h = let e = ap length (numeral_decimal n (omega arith)) in omega (arith, e, length-decimal-le 10 n (omega arith) (omega arith) (omega arith))
