-- An identifier's row written over.
use Rattle.std.proofs.Common.{◌≡◌, ℕ, zero, suc, ◌<◌, List, [], ◌∷◌, map, length, get_or, set, sym, refl, ap, ◌∙◌, subst, arith, length-set, get_or-take}
use lib.Seq.{take-set-lt}
use Rattle.std.proofs.ByRecursion.{All-set}
use Rattle.std.proofs.lemmas.List.{get_or-map, length-map, map-set}
use Rattle.rules.specs.Lists.{changed}
use Rattle.rules.specs.Views.{IdentifierV, with_identifiers}
use Rattle.hir.specs.declared.rows.Counts.{Counts}
use Rattle.hir.specs.declared.rows.Identifier.{Identifier}
use Rattle.hir.specs.Tables.{Tables, over_identifier}
use Rattle.hir.specs.View.{Rows, rows, put_identifiers, null_identifier, identifier_view, seen, view}
use Rattle.hir.specs.WellFormed.{IdentifierFits, Sound, WellFormed}
use Rattle.hir.proofs.Growth.{sizes_are}

changed_set : {A : Type 0} (g : A → A) (xs : List A) (n : ℕ) (d y : A) → n < length xs → g (get_or xs n d) ≡ y → set xs n y ≡ changed g n xs
changed_set g [] n d y h e = refl
changed_set g (x ∷ xs) zero d y h e = ap (λ v. v ∷ xs) (sym e)
changed_set g (x ∷ xs) (suc n) d y h e = ap (λ v. x ∷ v) (changed_set g xs n d y (omega arith) e)

module _ (t : Tables) (w : WellFormed t) (n : ℕ) (h : n < t.counts.identifiers) where
  abbrev r : Rows
  r = rows t

  identifiers_size : length r.identifiers ≡ t.counts.identifiers
  identifiers_size = ap (λ (c : Counts). c.identifiers) (sizes_are t w.counted)

  -- what is seen of it
  pub identifier_seen : (d : IdentifierV) → get_or (view t).identifiers n d ≡ identifier_view (view t).text (get_or t.identifiers n null_identifier)
  identifier_seen d =
      get_or-map (identifier_view r.text) r.identifiers n null_identifier d (omega (arith, identifiers_size))
      ∙ ap (identifier_view r.text) (get_or-take t.counts.identifiers t.identifiers n null_identifier h)

  rows_renamed : (x : Identifier) → rows (over_identifier t n x) ≡ put_identifiers r (set r.identifiers n x)
  rows_renamed x = ap (put_identifiers r) (take-set-lt t.counts.identifiers t.identifiers n x h)

  pub view_renamed : (x : Identifier) (g : IdentifierV → IdentifierV) (d : IdentifierV) → g (get_or (view t).identifiers n d) ≡ identifier_view (view t).text x
      → view (over_identifier t n x) ≡ with_identifiers (view t) (changed g n (view t).identifiers)
  view_renamed x g d e =
      let l : n < length (map (identifier_view r.text) r.identifiers) = simp length-map (omega (arith, identifiers_size)) in
      ap seen (rows_renamed x) ∙ ap (with_identifiers (view t)) (map-set (identifier_view r.text) r.identifiers n x ∙ changed_set g (view t).identifiers n d (identifier_view r.text x) l e)

  pub well_renamed : (x : Identifier) → IdentifierFits t.counts x → WellFormed (over_identifier t n x)
  well_renamed x fit = record {
    counted = let c = w.counted in record { text = c.text; identifiers = record { in_table = simp length-set c.identifiers.in_table; in_limit = c.identifiers.in_limit }; places = c.places; instructions = c.instructions; numbers = c.numbers; blocks = c.blocks; functions = c.functions };
    sound = subst (Sound t.counts) (sym (rows_renamed x)) (record {
      identifiers = All-set (IdentifierFits t.counts) r.identifiers n x fit w.sound.identifiers;
      places = w.sound.places;
      instructions = w.sound.instructions;
      blocks = w.sound.blocks;
      functions = w.sound.functions;
      blocks_apart = w.sound.blocks_apart;
      functions_apart = w.sound.functions_apart;
    });
  }
