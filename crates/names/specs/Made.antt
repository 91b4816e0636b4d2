-- Names that are made: written past the used text, and taken with it.
use Rattle.std.specs.Prelude.{◌≡◌, ℕ, Some, None, length, get_or, Option, slice_index_or}
use Rattle.std.proofs.Math.Seq.{paste}
use Rattle.rules.specs.Views.{Bytes, write}
use Rattle.rules.specs.Names.{temporary}
use Rattle.hir.specs.declared.rows.Name.{Name}
use Rattle.hir.specs.declared.rows.IdentifierName.{IdentifierName}
use Rattle.hir.specs.declared.rows.IdentifierName.TheVariants.{Promoted}
use Rattle.hir.specs.declared.rows.Identifier.{Identifier}
use Rattle.hir.specs.declared.rows.Store.{Store}
use Rattle.hir.specs.Frame.{Becomes}
use Rattle.hir.specs.Tables.{Tables, tables, hold_text, with_text, over_identifier}
use Rattle.hir.specs.View.{null_identifier, spelt, view}
use Rattle.hir.specs.WellFormed.{text_limit, NameFits, Room}

-- there is room for so many bytes more
abbrev pub TextRoom : Tables → ℕ → Type 0
TextRoom t n = Room t.counts.text n (length t.text) text_limit

-- the name of the next bytes
abbrev pub next_name : Tables → Bytes → Name
next_name t made = record { start = t.counts.text; len = length made }

-- A name of these bytes is made at the end of the used text: it fits, it spells them, and nothing else is written.
pub record Appended (before after : Store) (made : Bytes) (name : Name) : Type 0 where
  pub at : name ≡ next_name (tables before) made
  pub fits : NameFits after.counts name
  pub spells : spelt (view (tables after)).text name ≡ made
  pub does : Becomes before after (with_text (tables before) made) (write (view (tables before)) made)

-- bytes written past the used text and not taken: they can be compared, and the next try writes over them
abbrev pub with_spare_text : Tables → Bytes → Tables
with_spare_text t made = hold_text t t.counts (paste t.text t.counts.text made (length made))

-- An identifier promoted to #t and its declaration number; one that has a name keeps it.

abbrev pub promoted_row : Tables → Identifier → Identifier
promoted_row t i = record { declaration = i.declaration; name = Some (Promoted (next_name t (temporary i.declaration))) }

abbrev pub promoted_if : Tables → ℕ → Identifier → Option IdentifierName → Tables
promoted_if t x i None = over_identifier (with_text t (temporary i.declaration)) x (promoted_row t i)
promoted_if t x i (Some n) = t

abbrev pub with_promoted : Tables → ℕ → Tables
with_promoted t x = promoted_if t x (slice_index_or t.identifiers x null_identifier) (get_or t.identifiers x null_identifier).name
