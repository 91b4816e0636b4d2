-- Functions that an accepted call does not walk stay as they were.
use Rattle.std.proofs.Common.{ℕ, length, refl, inl, inr, arith}
use Rattle.std.proofs.lemmas.Bool.{cases_Bool, both_ways}
use Rattle.rules.specs.Lists.{within}
use Rattle.rules.specs.Views.{Hir, function_at}
use Rattle.rules.specs.Emit.{Report}
use Rattle.rules.specs.Eliminations.{Meaning}
use Rattle.rules.specs.Outline.{depth}
use Rattle.rules.specs.Drawn.{on_walk}
use Rattle.laws.specs.Staying.{WhatIsOutsideStays}
use Rattle.laws.specs.Allowances.{Counts}
use Rattle.laws.proofs.Walks.{free, Kept, Fine, walk_kept}

abbrev NothingKept : Hir → Hir → Report → ℕ → Counts → Type 0
NothingKept a b r s c = Unit

no_more : (m : Meaning) (n₀ : ℕ) → Kept m n₀ free (λ type rows. Unit) (λ type i. Unit) NothingKept
no_more m n₀ = record {
  ok_sub = λ s o. tt;
  ok_load = λ type rows i o l g. tt;
  same = λ h. tt;
  then = λ p q. tt;
  more = λ u v l p. tt;
  idle = λ h. refl;
  closes = λ type gs a b ms h t l j o. tt;
  relists = λ h f k w ws low big type yes o two many. tt;
}

pub what_is_outside_stays : WhatIsOutsideStays
what_is_outside_stays m lawful h f a =
    let n₀ = length h.functions in
    let fine : Fine m lawful n₀ free (λ type rows. Unit) (λ type i. Unit) NothingKept (no_more m n₀) depth h f = record { distinct = a.once; each = λ g q. (a.used g q, λ j. tt) } in
    let r = walk_kept m lawful n₀ free (λ type rows. Unit) (λ type i. Unit) NothingKept (no_more m n₀) depth h f (omega arith) fine in
    record {
      outside = λ g l o. r.untouched g o l;
      appended = λ g l e. elim (cases_Bool (within g (on_walk depth h f))) [
        | inl i ↦ absurd (both_ways (function_at h g).appended (a.sound g i).own e)
        | inr o ↦ r.untouched g o l
      ];
    }
