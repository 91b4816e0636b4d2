-- To have the same bytes is symmetric and transitive.
use Rattle.std.proofs.Common.{◌≡◌, true, sym, ◌∙◌, subst, inl, inr}
use Rattle.std.proofs.lemmas.Bool.{both_ways, cases_Bool}
use Rattle.rules.specs.Views.{Bytes}
use Rattle.rules.specs.Names.{same_bytes}
use Rattle.rules.proofs.Naming.{same_true, same_refl, apart_bytes}

pub same_flip : (a b : Bytes) → same_bytes a b ≡ same_bytes b a
same_flip a b = elim (cases_Bool (same_bytes a b)) [
  | inl t ↦ simp (same_true a b t)
  | inr f ↦ f ∙ sym (apart_bytes b a (λ e. both_ways (same_bytes a b) f (subst (λ (s : Bytes). same_bytes a s ≡ true) (sym e) (same_refl a))))
]

pub same_chain : (a b c : Bytes) → same_bytes a b ≡ true → same_bytes b c ≡ true → same_bytes a c ≡ true
same_chain a b c p q = simp (same_true a b p) q
