-- Chains over rows that are seen through a map, and over the numbers of a function's blocks.
use Rattle.std.proofs.Common.{◌≡◌, ℕ, ◌<◌, Bool, true, false, not, List, [], ◌∷◌, map, length, get_or, Option, MatchBool, sym, subst, arith}
use Rattle.std.specs.Fn.{Called}
use Rattle.std.specs.List.{AllByRecursion, range_with_len}
use Rattle.std.specs.Iterator.{CallableAtEachTurn, ChecksAll, ChecksAny}
use Rattle.std.specs.declared.ops.Range.{Range}
use Rattle.std.proofs.iter.Yields.{nat_range_steps}
use Rattle.std.proofs.ByRecursion.{All-get_or, All-from_get_or, All-map}
use Rattle.std.proofs.lemmas.List.FromFn.{length-range_with_len, get_or-range_with_len}
use Rattle.std.proofs.lemmas.Iterator.{YieldsList, YieldsList-from_range, cases_from_any}
use Rattle.std.proofs.lemmas.Iterator.Adapters.{serves_from_places}
use denote.Param.Members.{Mut}
use Rattle.rules.specs.Views.{InstructionV, BlockV, block_rows}
use Rattle.refusals.proofs.Blocks.{all_blocks, each_block}
use Rattle.refusals.proofs.Tests.{when_like, each, all_tells}

-- what each item has may be asked of it, by a closure that stays as it was
pub called_at_each : {S A B F : Type 0} {steps : S → Option A → S → Type 0} {v : A → B} {s : S} (P : B → Type 0) (xs : List B) → AllByRecursion P xs → YieldsList steps v s xs → {R : F → A → F → Type 0} {Q : F → A → Type 0} {f : F} → ((x : A) (q : F) → R f x q → q ≡ f) → ((x : A) → P (v x) → Q f x) → CallableAtEachTurn steps R Q s f
called_at_each {v = v} P xs a road keeps may = serves_from_places road keeps (λ x k h i. may x (subst P (sym i) (All-get_or P xs k (v x) h a)))

unmapped : {B C : Type 0} (P : C → Type 0) (h : B → C) (xs : List B) → AllByRecursion P (map h xs) → AllByRecursion (λ x. P (h x)) xs
unmapped P h [] a = tt
unmapped P h (x ∷ xs) a = (a.0, unmapped P h xs a.1)

-- `all`, where each call tells whether P holds of what h makes of its item
pub all_mapped_tell : {S A B C F : Type 0} {steps : S → Option A → S → Type 0} {v : A → B} {g : Mut F (A × Unit {0}) Bool} {s : S} {xs : List B} (P : C → Type 0) (h : B → C) (u : S) (f : F) (r : Bool) → ChecksAll steps g s f r u → YieldsList steps v s xs
    → ((x : A) (b : Bool) (q : F) → Called g f (x, tt) b q → (q ≡ f) × MatchBool b (P (h (v x))) (P (h (v x)) → ⊥))
    → MatchBool r (AllByRecursion P (map h xs)) (AllByRecursion P (map h xs) → ⊥)
all_mapped_tell {xs = xs} P h u f r ran road told = when_like r (All-map P h xs) (unmapped P h xs) (all_tells xs (λ x. P (h x)) u f r ran road told)

-- no `any`, where each call tells whether P fails
pub no_mapped_tell : {S A B C F : Type 0} {steps : S → Option A → S → Type 0} {v : A → B} {g : Mut F (A × Unit {0}) Bool} {s : S} {xs : List B} (P : C → Type 0) (h : B → C) (u : S) (f : F) (r : Bool) → ChecksAny steps g s f r u → YieldsList steps v s xs
    → ((x : A) (q : F) → Called g f (x, tt) true q → P (h (v x)) → ⊥) → ((x : A) (q : F) → Called g f (x, tt) false q → (q ≡ f) × P (h (v x)))
    → MatchBool (not r) (AllByRecursion P (map h xs)) (AllByRecursion P (map h xs) → ⊥)
no_mapped_tell {xs = xs} P h u f true ran road found passed = when_like false (All-map P h xs) (unmapped P h xs) (each (λ x. P (h x)) xs false (cases_from_any u f true (λ x. P (h x) → ⊥) (λ x. P (h x)) ran road found passed))
no_mapped_tell {xs = xs} P h u f false ran road found passed = when_like true (All-map P h xs) (unmapped P h xs) (each (λ x. P (h x)) xs true (cases_from_any u f false (λ x. P (h x) → ⊥) (λ x. P (h x)) ran road found passed))

-- `all` over the numbers of a function's blocks
module _ (P : List InstructionV → Type 0) (bs : List BlockV) where
  abbrev numbers : List ℕ
  numbers = range_with_len 0 (length bs)

  at_number : (k d : ℕ) → k < length bs → get_or numbers k d ≡ k
  at_number k d l = omega (arith, get_or-range_with_len 0 (length bs) k d l)

  by_blocks : AllByRecursion (λ k. P (block_rows bs k)) numbers → AllByRecursion (λ (b : BlockV). P b.rows) bs
  by_blocks a = all_blocks P bs (λ k l. let n = length-range_with_len 0 (length bs) in subst (λ i. P (block_rows bs i)) (at_number k 0 l) (All-get_or (λ i. P (block_rows bs i)) numbers k 0 (omega arith) a))

  by_numbers : AllByRecursion (λ (b : BlockV). P b.rows) bs → AllByRecursion (λ k. P (block_rows bs k)) numbers
  by_numbers a = All-from_get_or (λ i. P (block_rows bs i)) numbers 0 (λ k h. let l : k < length bs = omega (arith, length-range_with_len 0 (length bs)) in subst (λ i. P (block_rows bs i)) (sym (at_number k 0 l)) (each_block P bs a k l))

  pub all_blocks_tell : {F : Type 0} {g : Mut F (ℕ × Unit {0}) Bool} {s : Range ℕ} (u : Range ℕ) (f : F) (r : Bool) → ChecksAll nat_range_steps g s f r u → s ≡ record { start = 0; end = length bs }
      → ((k : ℕ) (b : Bool) (q : F) → Called g f (k, tt) b q → (q ≡ f) × MatchBool b (P (block_rows bs k)) (P (block_rows bs k) → ⊥))
      → MatchBool r (AllByRecursion (λ (b : BlockV). P b.rows) bs) (AllByRecursion (λ (b : BlockV). P b.rows) bs → ⊥)
  all_blocks_tell u f r ran e told = when_like r by_blocks by_numbers (all_tells numbers (λ k. P (block_rows bs k)) u f r ran (YieldsList-from_range 0 (length bs) (length bs) e (omega arith)) told)
