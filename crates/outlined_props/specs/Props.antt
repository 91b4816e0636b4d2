-- What gathered props, bound props and the rows of a call show.
use Rattle.std.specs.Prelude.{Bool, true, false, List, [], ◌∷◌, map, None, Option}
use Rattle.rules.specs.Views.{Bytes}
use Rattle.rules.specs.Props as rules
use Rattle.rules.specs.Emit as emits
use Rattle.ordered_table.specs.declared.Entry.{Entry}
use Rattle.hir.specs.declared.rows.Counts.{Counts}
use Rattle.hir.specs.declared.rows.IdentifierId.{IdentifierId}
use Rattle.hir.specs.View.{Rows, spelt, spelt_if, place_view, instructions_at}
use Rattle.hir.specs.WellFormed.{NameFits, NameIfFits, PlaceFits}
use Rattle.outlined_props.specs.declared.Origin.{Origin}
use Rattle.outlined_props.specs.declared.Origin.TheVariants.{Attribute, Child}
use Rattle.outlined_props.specs.declared.OutlinedJsxAttribute.{OutlinedJsxAttribute}
use Rattle.outlined_props.specs.declared.BoundProp.{BoundProp}
use Rattle.outlined_props.specs.declared.Rewrite.{Rewrite}

abbrev pub is_child : Origin → Bool
is_child (Attribute n) = false
is_child Child = true

-- only an attribute has an original name
abbrev pub original_name : Bytes → Origin → Option Bytes
original_name text (Attribute n) = spelt_if text n
original_name text Child = None

-- a prop, its names spelt out
abbrev pub entry_view : Bytes → OutlinedJsxAttribute → rules.OutlinedJsxAttribute
entry_view text e = record { child = is_child e.origin; original_name = original_name text e.origin; new_name = spelt text e.new_name; place = place_view text e.place }

abbrev pub entries_view : Bytes → List OutlinedJsxAttribute → List rules.OutlinedJsxAttribute
entries_view text es = map (entry_view text) es

abbrev pub OriginFits : Counts → Origin → Type 0
OriginFits c (Attribute n) = NameIfFits c n
OriginFits c Child = Unit {0}

-- its names lie within the used text, and its identifier is used
pub record EntryFits (c : Counts) (e : OutlinedJsxAttribute) : Type 0 where
  pub original : OriginFits c e.origin
  pub new : NameFits c e.new_name
  pub place : PlaceFits c e.place

-- a line of the ordered table
abbrev pub bound_view : Bytes → Entry IdentifierId BoundProp → rules.Bound
bound_view text b = record { old = b.key.0; key = spelt text b.value.new_name; fresh = b.value.fresh.0 }

abbrev pub table_view : Bytes → List (Entry IdentifierId BoundProp) → List rules.Bound
table_view text bs = map (bound_view text) bs

-- the rows that are to stand in the place of a root
abbrev pub rewrite_view : Rows → Rewrite → emits.Rewrite
rewrite_view r w = record { root = w.root.0; rows = instructions_at r (w.load.0 ∷ w.call.0 ∷ []) }

abbrev pub rewrites_view : Rows → List Rewrite → List emits.Rewrite
rewrites_view r ws = map (rewrite_view r) ws
