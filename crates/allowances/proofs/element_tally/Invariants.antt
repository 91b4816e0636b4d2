use Rattle.std.proofs.Common.{drop}
use Rattle.laws.specs.Allowances.{plus}
use Rattle.allowances.specs.Places.{one_element, places_counts}
use Rattle.allowances.proofs.Sums.{Summing}
use Rattle.allowances.proofs.element_tally.Given as goal

abbrev pub invariant-loop-place : goal.invariant-loop-place
invariant-loop-place l = Summing (plus one_element (places_counts l.places)) (places_counts (drop l.place-index l.places)) l.sum
