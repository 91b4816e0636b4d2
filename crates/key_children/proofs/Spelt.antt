-- The name of an identifier, as its row has it and as it is seen.
use Rattle.std.proofs.Common.{◌≡◌, Some, None, Option, ℕ, ◌<◌, length, get_or, refl, ap, ◌∙◌, arith, get_or-take}
use Rattle.std.proofs.lemmas.List.{get_or-map}
use Rattle.rules.specs.Views.{Bytes, absent, IdentifierV}
use Rattle.hir.specs.declared.rows.Counts.{Counts}
use Rattle.hir.specs.declared.rows.IdentifierName.{IdentifierName}
use Rattle.hir.specs.declared.rows.IdentifierName.TheVariants.{Named, Promoted}
use Rattle.hir.specs.Tables.{Tables}
use Rattle.hir.specs.View.{rows, view, spelt_if, name_view, identifier_view, null_identifier}
use Rattle.hir.specs.WellFormed.{WellFormed}
use Rattle.hir.proofs.Growth.{sizes_are}
use Rattle.refusals.specs.Walked.{bytes_if, name_of}
use Rattle.hir.specs.Given.{name_if}

spelt_name : (text : Bytes) (n : Option IdentifierName) → bytes_if (name_view text n) ≡ spelt_if text (name_if n)
spelt_name text None = refl
spelt_name text (Some (Named n)) = refl
spelt_name text (Some (Promoted n)) = refl

module _ (t : Tables) (w : WellFormed t) (x : ℕ) (h : x < t.counts.identifiers) where
  row_is : get_or (rows t).identifiers x null_identifier ≡ get_or t.identifiers x null_identifier
  row_is = get_or-take t.counts.identifiers t.identifiers x null_identifier h

  size : length (rows t).identifiers ≡ t.counts.identifiers
  size = ap (λ (c : Counts). c.identifiers) (sizes_are t w.counted)

  pub name_seen : name_of (view t) x ≡ spelt_if (view t).text (name_if (get_or t.identifiers x null_identifier).name)
  name_seen =
      ap (λ (i : IdentifierV). bytes_if i.name) (get_or-map (identifier_view (view t).text) (rows t).identifiers x null_identifier (record { declaration = 0; name = absent }) (omega (arith, size)) ∙ ap (identifier_view (view t).text) row_is)
      ∙ spelt_name (view t).text (get_or t.identifiers x null_identifier).name
