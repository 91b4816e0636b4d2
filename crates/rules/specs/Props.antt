-- Gathering the props of a group of nested JSX rows, and the fresh places that they are bound to.
use Rattle.std.specs.Prelude.{ℕ, Bool, true, false, not, ◌&&◌, List, [], ◌∷◌, ◌++◌, length, None, Option, ◌==◌, slice_index_or}
use Rattle.rules.specs.Lists.{gathered, within, changed}
use Rattle.rules.specs.Views.{Bytes, PlaceV, InstructionV, NameV, absent, named, promoted, IdentifierV, Hir, role_is, results, with_identifiers, write}
use Rattle.rules.specs.Names.{same_bytes, spell, is_key, t_name, temporary, Made, generate_name}

-- Gathering: the Rust's `collect_props`.

-- a prop of the group: an attribute of a member, or a child that is no member; only an attribute has an original name
pub record OutlinedJsxAttribute : Type 0 where
  pub child : Bool
  pub original_name : Option Bytes
  pub new_name : Bytes
  pub place : PlaceV

-- the store, the names seen in this group and its counter, the props so far, and whether a spread has ended it
pub record Gathering : Type 0 where
  pub hir : Hir
  pub seen : List Bytes
  pub counter : ℕ
  pub entries : List OutlinedJsxAttribute
  pub ended : Bool

-- one more prop, under the name made for it
abbrev pub enter : Gathering → Hir → Bool → PlaceV → Option Bytes → Made → Gathering
enter g h child p original made = record {
  hir = h;
  seen = made.name ∷ g.seen;
  counter = made.counter;
  entries = g.entries ++ (record { child = child; original_name = original; new_name = made.name; place = p } ∷ []);
  ended = false;
}

-- a name that is kept unchanged is not written anew
abbrev pub write_changed : Hir → Bytes → Bytes → Hir
write_changed h old new = elim (same_bytes old new) [ true ↦ h | false ↦ write h new ]

-- an attribute goes by its own name, or by one made from it
abbrev pub enter_attribute : Gathering → PlaceV → Gathering
enter_attribute g p =
    let made : Made = generate_name g.seen (spell p.name) g.counter in
    enter g (write_changed g.hir (spell p.name) made.name) false p p.name made

-- what stands where there is no identifier
abbrev pub no_identifier : IdentifierV
no_identifier = record { declaration = 0; name = absent }

-- an identifier without a name gets a promoted one, made of its declaration number
abbrev pub promote : Hir → ℕ → Hir
promote h x =
    let i : IdentifierV = slice_index_or h.identifiers x no_identifier in
    elim i.name [
      | absent ↦ write (with_identifiers h (changed (λ j. record { declaration = j.declaration; name = promoted (temporary j.declaration) }) x h.identifiers)) (temporary i.declaration)
      | named n ↦ h
      | promoted n ↦ h
    ]

-- a child is promoted, and goes by a name made from t
abbrev pub enter_child : Gathering → PlaceV → Gathering
enter_child g p =
    let made : Made = generate_name g.seen t_name g.counter in
    enter g (write (promote g.hir p.identifier) made.name) true p None made

-- a spread ends the gathering; what was promoted and written stays
abbrev pub end : Gathering → Gathering
end g = record { hir = g.hir; seen = g.seen; counter = g.counter; entries = g.entries; ended = true }

-- one place of a member: an attribute and a child from outside the group are entered, a spread ends it
abbrev pub gather_place : List ℕ → Gathering → PlaceV → Gathering
gather_place members g p =
    elim g.ended [
      | true ↦ g
      | false ↦ elim (role_is 2 p) [
        | true ↦ enter_attribute g p
        | false ↦ elim (role_is 3 p) [
          | true ↦ end g
          | false ↦ elim (role_is 4 p && not (within p.identifier members)) [ true ↦ enter_child g p | false ↦ g ]
        ]
      ]
    ]

-- one place after the other
abbrev pub gather : List ℕ → Gathering → List PlaceV → Gathering
gather members g [] = g
gather members g (p ∷ ps) = gather members (gather_place members g p) ps

-- nothing is gathered yet; the counter starts at 1
abbrev pub start_gathering : Hir → Gathering
start_gathering h = record { hir = h; seen = []; counter = 1; entries = []; ended = false }

-- the members in block order, each with its places in order
abbrev pub collect_props : Hir → List InstructionV → Gathering
collect_props h ms = gather (results ms) (start_gathering h) (gathered (λ (m : InstructionV). m.places) ms)

-- Binding: the Rust's `create_old_to_new_props_mapping`.

-- the next identifier: its declaration number is its own
abbrev pub fresh : Hir → NameV → Hir
fresh h n = with_identifiers h (h.identifiers ++ (record { declaration = length h.identifiers; name = n } ∷ []))

-- an attribute named key is not bound
abbrev pub is_key_entry : OutlinedJsxAttribute → Bool
is_key_entry e = not e.child && is_key e.original_name

-- A line of the ordered table: an identifier, with the new name and the identifier of its latest fresh place.
pub record Bound : Type 0 where
  pub old : ℕ
  pub key : Bytes
  pub fresh : ℕ

-- a new identifier goes to the end, a repeated one gets the new line in its old position
abbrev pub put : Bound → List Bound → List Bound
put b [] = b ∷ []
put b (c ∷ cs) = elim (b.old == c.old) [ true ↦ b ∷ cs | false ↦ c ∷ put b cs ]

-- the latest fresh place of an identifier
abbrev pub latest : List Bound → ℕ → ℕ
latest [] x = x
latest (b ∷ bs) x = elim (b.old == x) [ true ↦ b.fresh | false ↦ latest bs x ]

-- the store, and the ordered table
pub record Mapping : Type 0 where
  pub hir : Hir
  pub table : List Bound

-- a fresh identifier, Named, for each prop but the attributes named key
abbrev pub bind_entries : Mapping → List OutlinedJsxAttribute → Mapping
bind_entries m [] = m
bind_entries m (e ∷ es) = elim (is_key_entry e) [
  | true ↦ bind_entries m es
  | false ↦ bind_entries (record {
    hir = fresh m.hir (named e.new_name);
    table = put (record { old = e.place.identifier; key = e.new_name; fresh = length m.hir.identifiers }) m.table;
  }) es
]

-- all of them, from an empty table
abbrev pub create_old_to_new_props_mapping : Hir → List OutlinedJsxAttribute → Mapping
create_old_to_new_props_mapping h es = bind_entries (record { hir = h; table = [] }) es
