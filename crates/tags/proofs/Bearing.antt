-- Which names identifiers and rows bear, one by one.
use Rattle.std.proofs.Common.{◌≡◌, ℕ, Bool, ◌||◌, List, [], ◌∷◌, map, Some, None, Option, sym, refl, ap, ◌∙◌}
use Rattle.std.specs.List.{list_any}
use Rattle.rules.specs.Lists.{any}
use Rattle.rules.specs.Views.{Bytes}
use Rattle.rules.specs.Names.{same_bytes, borne, names_of}
use Rattle.hir.specs.declared.rows.IdentifierName.{IdentifierName}
use Rattle.hir.specs.declared.rows.IdentifierName.TheVariants.{Named, Promoted}
use Rattle.hir.specs.declared.rows.Identifier.{Identifier}
use Rattle.hir.specs.View.{identifier_view, spelt}
use Rattle.hir.proofs.Laws.{or_false}

-- does the identifier bear the name?
abbrev pub bears : Bytes → Bytes → Identifier → Bool
bears n text x = borne n (names_of (identifier_view text x ∷ []))

-- it does, or a later one
bears_first : (n text : Bytes) (d : ℕ) (m : Option IdentifierName) (xs : List Identifier)
    → borne n (names_of (map (identifier_view text) (record { declaration = d; name = m } ∷ xs))) ≡ (bears n text (record { declaration = d; name = m }) || borne n (names_of (map (identifier_view text) xs)))
bears_first n text d None xs = refl
bears_first n text d (Some (Named m)) xs = ap (λ b. b || borne n (names_of (map (identifier_view text) xs))) (sym (or_false (same_bytes n (spelt text m))))
bears_first n text d (Some (Promoted m)) xs = ap (λ b. b || borne n (names_of (map (identifier_view text) xs))) (sym (or_false (same_bytes n (spelt text m))))

pub some_bears : (n text : Bytes) (xs : List Identifier) → borne n (names_of (map (identifier_view text) xs)) ≡ list_any (bears n text) xs
some_bears n text [] = refl
some_bears n text (x ∷ xs) = bears_first n text x.declaration x.name xs ∙ ap (λ b. bears n text x || b) (some_bears n text xs)

pub any_same : {A : Type 0} (p : A → Bool) (xs : List A) → any p xs ≡ list_any p xs
any_same p [] = refl
any_same p (x ∷ xs) = ap (λ b. p x || b) (any_same p xs)
