-- What holds of every block of a function, block by block.
use Rattle.std.proofs.Common.{◌≡◌, ℕ, zero, suc, ◌+◌, ◌<◌, List, [], ◌∷◌, ◌++◌, length, drop, refl, add-one, arith}
use Rattle.std.specs.List.{AllByRecursion}
use Rattle.rules.specs.Lists.{backwards}
use Rattle.rules.specs.Drawn.{inner, inner_of}
use Rattle.rules.specs.Views.{InstructionV, BlockV, block_rows}

pub all_blocks : (P : List InstructionV → Type 0) (bs : List BlockV) → ((k : ℕ) → k < length bs → P (block_rows bs k)) → AllByRecursion (λ (b : BlockV). P b.rows) bs
all_blocks P [] h = tt
all_blocks P (b ∷ bs) h = (h 0 (omega arith), all_blocks P bs (λ k l. h (suc k) (omega arith)))

pub each_block : (P : List InstructionV → Type 0) (bs : List BlockV) → AllByRecursion (λ (b : BlockV). P b.rows) bs → (k : ℕ) → k < length bs → P (block_rows bs k)
each_block P [] h k l = absurd (omega arith)
each_block P (b ∷ bs) h zero l = h.0
each_block P (b ∷ bs) h (suc k) l = each_block P bs h.1 k (omega arith)

-- the inner functions of the first of the blocks that are left, and those of the others
pub block_first : (bs : List BlockV) (k : ℕ) → k < length bs → inner_of (drop k bs) ≡ inner (backwards (block_rows bs k)) ++ inner_of (drop (k + 1) bs)
block_first [] k h = absurd (omega arith)
block_first (b ∷ bs) zero h = refl
block_first (b ∷ bs) (suc k) h = rw add-one (rw add-one at (block_first bs k (omega arith)))
