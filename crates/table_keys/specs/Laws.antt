-- Tables over identifiers and over names say what the rules' lists say.
use Rattle.std.specs.Prelude.{◌≡◌, ℕ, ◌||◌, List, map}
use Rattle.std.specs.Option.{option_map, unwrap_or}
use Rattle.rules.specs.Views.{Bytes}
use Rattle.rules.specs.Names.{same_bytes, borne}
use Rattle.rules.specs.Props.{Bound, put, latest}
use Rattle.hir.specs.declared.rows.IdentifierId.{IdentifierId}
use Rattle.hir.specs.declared.rows.Name.{Name}
use Rattle.ordered_table.specs.declared.Entry.{Entry}
use Rattle.ordered_table.specs.Entries as entries
use Rattle.hir.specs.Keys.{same_number, same_spelling}
use Rattle.hir.specs.View.{spelt}

-- a line of the rules' table, for values that give its name and its fresh identifier
abbrev pub line : {V : Type 0} → (V → Bytes) → (V → ℕ) → Entry IdentifierId V → Bound
line name fresh x = record { old = x.key.0; key = name x.value; fresh = fresh x.value }

-- However the values give names and fresh identifiers, the table over identifiers is the rules' table: an insertion is its `put`, and a
-- look-up, with the identifier itself if there is no value, is its `latest`.
pub record BindsByRules (V : Type 0) : Type 0 where
  pub puts : (name : V → Bytes) (fresh : V → ℕ) (xs : List (Entry IdentifierId V)) (k : IdentifierId) (v : V)
      → map (line name fresh) (entries.put same_number xs k v) ≡ put (line name fresh (record { key = k; value = v })) (map (line name fresh) xs)
  pub looks : (name : V → Bytes) (fresh : V → ℕ) (xs : List (Entry IdentifierId V)) (k : IdentifierId)
      → latest (map (line name fresh) xs) k.0 ≡ unwrap_or (option_map fresh (entries.look same_number xs k)) k.0

-- A name inserted is one more name seen.
pub record SeenByRules (V : Type 0) (text : Bytes) : Type 0 where
  pub puts : (xs : List (Entry Name V)) (k : Name) (v : V) (n : Bytes)
      → borne n (map (spelt text) (entries.keys (entries.put (same_spelling text) xs k v))) ≡ (same_bytes n (spelt text k) || borne n (map (spelt text) (entries.keys xs)))
