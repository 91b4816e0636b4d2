-- The view after a name is made, spelt or promoted.
use Rattle.std.proofs.Common.{◌≡◌, true, false, Some, None, Option, ℕ, ◌<◌, length, get_or, take, drop, sym, refl, ap, ◌∙◌, subst, arith}
use Rattle.std.specs.Prelude.{is_some}
use Rattle.rules.specs.Lists.{changed}
use Rattle.rules.specs.Views.{Bytes, absent, named, promoted, IdentifierV, Hir, with_identifiers, write}
use Rattle.rules.specs.Names.{temporary}
use Rattle.rules.specs.Props.{promote, no_identifier}
use Rattle.hir.specs.declared.rows.Name.{Name}
use Rattle.hir.specs.declared.rows.Counts.{Counts}
use Rattle.hir.specs.declared.rows.IdentifierName.{IdentifierName}
use Rattle.hir.specs.declared.rows.IdentifierName.TheVariants.{Named, Promoted}
use Rattle.hir.specs.declared.rows.Identifier.{Identifier}
use Rattle.hir.specs.declared.rows.Store.{Store}
use Rattle.hir.proofs.Calls.{becomes}
use Rattle.hir.specs.Tables.{Tables, tables, Held, with_text, over_identifier}
use Rattle.hir.specs.View.{Rows, rows, null_identifier, identifier_view, spelt, view}
use Rattle.hir.specs.WellFormed.{NameFits, WellFormed}
use Rattle.hir.specs.Frame.{Becomes, Kept}
use Rattle.hir.proofs.Runs.{run_of, run_last, run_used, length_run}
use Rattle.hir.proofs.Growth.{sizes_are}
use Rattle.hir.proofs.Laws.{rows_text, view_text, well_text}
use Rattle.hir.proofs.Frames.{kept_same, kept_then, kept_text, kept_over_identifier}
use Rattle.hir.proofs.Renaming.{identifier_seen, view_renamed, well_renamed}
use Rattle.names.specs.Made.{Appended, TextRoom, next_name, promoted_row, promoted_if, with_promoted}

module _ (t : Tables) (w : WellFormed t) (made : Bytes) (room : TextRoom t (length made)) where
  text_size : length (view t).text ≡ t.counts.text
  text_size = ap (λ (c : Counts). c.text) (sizes_are t w.counted)

  -- the new name spells what was written
  spelt_made : spelt (view (with_text t made)).text (next_name t made) ≡ made
  spelt_made = ap (λ (r : Rows). spelt r.text (next_name t made)) (rows_text t w made room) ∙ run_last t.counts.text (length made) (rows t).text made (sym text_size) refl

  made_fits : 0 < length made → NameFits (with_text t made).counts (next_name t made)
  made_fits h = record { some = h; inside = omega arith }

-- a name of these bytes, taken with them
pub appended : (before after : Store) (made : Bytes) (name : Name) → WellFormed (tables before) → TextRoom (tables before) (length made) → 0 < length made
    → name ≡ next_name (tables before) made → tables after ≡ with_text (tables before) made → Held after before → Appended before after made name
appended before after made name w room some at writes held =
    let t : Tables = tables before in
    record {
      at = at;
      fits = subst (λ (k : Counts). NameFits k name) (sym (ap (λ (u : Tables). u.counts) writes)) (subst (NameFits (with_text t made).counts) (sym at) (made_fits t w made room some));
      spells = (λ i. spelt (view (writes i)).text (at i)) ∙ spelt_made t w made room;
      does = becomes before after _ _ writes held (view_text t w made room) (well_text t w made room) (kept_text t made room.in_table);
    }

-- the bytes of a name, in the whole text table
module _ (t : Tables) (w : WellFormed t) (n : Name) (fits : NameFits t.counts n) where
  used_size : length (view t).text ≡ t.counts.text
  used_size = ap (λ (c : Counts). c.text) (sizes_are t w.counted)

  pub spelt_in : spelt (view t).text n ≡ take n.len (drop n.start t.text)
  spelt_in = run_used (run_of n.start n.len) t.counts.text t.text (omega (arith, used_size, fits.inside))

  pub length_spelt : length (spelt (view t).text n) ≡ n.len
  length_spelt = length_run (run_of n.start n.len) (view t).text (omega (arith, used_size, fits.inside))

-- Promotion.

abbrev named_now : IdentifierV → IdentifierV
named_now j = record { declaration = j.declaration; name = promoted (temporary j.declaration) }

-- what the rule does, by the identifier that it finds
abbrev promote_by : Hir → ℕ → IdentifierV → Hir
promote_by h x i = elim i.name [ absent ↦ write (with_identifiers h (changed named_now x h.identifiers)) (temporary i.declaration) | named n ↦ h | promoted n ↦ h ]

module _ (t : Tables) (w : WellFormed t) (x : ℕ) (used : x < t.counts.identifiers) where
  abbrev i : Identifier
  i = get_or t.identifiers x null_identifier

  module _ (room : TextRoom t (length (temporary i.declaration))) where
    abbrev made : Bytes
    made = temporary i.declaration

    abbrev t₁ : Tables
    t₁ = with_text t made

    w₁ : WellFormed t₁
    w₁ = well_text t w made room

    seen_now : named_now (get_or (view t₁).identifiers x no_identifier) ≡ identifier_view (view t₁).text (promoted_row t i)
    seen_now = ap named_now (identifier_seen t₁ w₁ x used no_identifier) ∙ λ k. record { declaration = i.declaration; name = promoted (sym (spelt_made t w made room) k) }

    view_absent : view (over_identifier t₁ x (promoted_row t i)) ≡ write (with_identifiers (view t) (changed named_now x (view t).identifiers)) made
    view_absent = view_renamed t₁ w₁ x used (promoted_row t i) named_now no_identifier seen_now ∙ ap (λ (h : Hir). with_identifiers h (changed named_now x h.identifiers)) (view_text t w made room)

    by_name : (n : Option IdentifierName) → view (promoted_if t x i n) ≡ promote_by (view t) x (identifier_view (view t).text (record { declaration = i.declaration; name = n }))
    by_name None = view_absent
    by_name (Some (Named n)) = refl
    by_name (Some (Promoted n)) = refl

    view_promoted : view (with_promoted t x) ≡ promote (view t) x
    view_promoted = by_name i.name ∙ ap (promote_by (view t) x) (sym (identifier_seen t w x used no_identifier))

    well_by : (n : Option IdentifierName) → WellFormed (promoted_if t x i n)
    well_by None = well_renamed t₁ w₁ x used (promoted_row t i) (record { some = omega arith; inside = omega arith })
    well_by (Some n) = w

    well_promoted : WellFormed (with_promoted t x)
    well_promoted = well_by i.name

    kept_by : (n : Option IdentifierName) → Kept t (promoted_if t x i n)
    kept_by None = kept_then (kept_text t made room.in_table) (kept_over_identifier t₁ x (promoted_row t i) used (omega (arith, w.counted.identifiers.in_table)) refl)
    kept_by (Some n) = kept_same t

    kept_promoted : Kept t (with_promoted t x)
    kept_promoted = kept_by i.name

    now_by : (n : Option IdentifierName) → is_some n ≡ false → over_identifier t₁ x (promoted_row t i) ≡ promoted_if t x i n
    now_by None h = refl
    now_by (Some n) h = absurd cc

    before_by : (n : Option IdentifierName) → is_some n ≡ true → t ≡ promoted_if t x i n
    before_by None h = absurd cc
    before_by (Some n) h = refl

    -- what the row was decides
    pub promoted_now : is_some i.name ≡ false → over_identifier t₁ x (promoted_row t i) ≡ with_promoted t x
    promoted_now h = now_by i.name h

    pub promoted_before : is_some i.name ≡ true → t ≡ with_promoted t x
    promoted_before h = before_by i.name h

    pub promotes : (before after : Store) → tables before ≡ t → tables after ≡ with_promoted t x → Held after before → Becomes before after (with_promoted t x) (promote (view t) x)
    promotes before after is writes held = becomes before after _ _ writes held view_promoted well_promoted (subst (λ (u : Tables). Kept u (with_promoted t x)) (sym is) kept_promoted)
