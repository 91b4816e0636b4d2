-- What the places of an element count, by their rows.
use Rattle.std.specs.Prelude.{ℕ, true, false, List, [], ◌∷◌, Some, None, Option, ◌==◌}
use Rattle.laws.specs.Allowances.{Counts, no_counts, plus}
use Rattle.hir.specs.declared.rows.Name.{Name}
use Rattle.hir.specs.declared.rows.Place.{Place}

-- the bytes of a name, none for an absent one
abbrev pub letters_in : Option Name → ℕ
letters_in None = 0
letters_in (Some n) = n.len

-- an element without places
abbrev pub one_element : Counts
one_element = record { attributes = 0; children = 0; elements = 1; pairs = 0; listed = 0; letters = 0 }

-- an attribute, whose name has so many bytes
abbrev pub one_attribute : ℕ → Counts
one_attribute n = record { attributes = 1; children = 0; elements = 0; pairs = 0; listed = 0; letters = n }

-- a child
abbrev pub one_child : Counts
one_child = record { attributes = 0; children = 1; elements = 0; pairs = 0; listed = 0; letters = 0 }

-- a place counts as an attribute, as a child or as nothing
abbrev pub place_counts : Place → Counts
place_counts p = elim (p.role == 2) [ true ↦ one_attribute (letters_in p.name) | false ↦ elim (p.role == 4) [ true ↦ one_child | false ↦ no_counts ] ]

-- some places together
abbrev pub places_counts : List Place → Counts
places_counts [] = no_counts
places_counts (p ∷ ps) = plus (place_counts p) (places_counts ps)
