-- What is left of some blocks, the next one apart.
use Rattle.std.proofs.Common.{◌≡◌, ℕ, zero, suc, ◌+◌, ◌<◌, List, [], ◌∷◌, length, drop, refl, arith, add-one}
use Rattle.rules.specs.Views.{BlockV, block_rows}
use Rattle.laws.specs.Allowances.{plus, block_counts, blocks_counts}

pub first_block : (bs : List BlockV) (k : ℕ) → k < length bs → blocks_counts (drop k bs) ≡ plus (block_counts (block_rows bs k)) (blocks_counts (drop (k + 1) bs))
first_block [] k h = absurd (omega arith)
first_block (b ∷ bs) zero h = refl
first_block (b ∷ bs) (suc k) h = rw add-one (rw add-one at (first_block bs k (omega arith)))
