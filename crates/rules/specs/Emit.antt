-- The rows of a call, the function that it calls, and what becomes of a group.
use Rattle.std.specs.Prelude.{ℕ, suc, ◌+◌, true, false, not, ◌&&◌, ◌||◌, List, [], ◌∷◌, ◌++◌, map, length, Some, None, Option, ◌==◌}
use Rattle.rules.specs.Lists.{select, gathered, within}
use Rattle.rules.specs.Kinds.{destructure_kind, jsx_kind, load_global_kind}
use Rattle.rules.specs.Views.{Bytes, PlaceV, InstructionV, FunctionV, absent, promoted, Hir, role_is, place_of, named_place, row, results, function_rows, write}
use Rattle.rules.specs.Names.{same_bytes, is_key, temporary, tag_temporary, tag_name, next_tag}
use Rattle.rules.specs.Props.{OutlinedJsxAttribute, Gathering, collect_props, fresh, Bound, latest, Mapping, create_old_to_new_props_mapping}

-- The call: the Rust's `emit_outlined_jsx`.

-- an entry as an attribute under its new name, its place otherwise kept
abbrev pub as_attribute : OutlinedJsxAttribute → PlaceV
as_attribute e = record { role = 2; name = Some e.new_name; identifier = e.place.identifier; effect = e.place.effect; reactive = e.place.reactive; span = e.place.span }

-- the load of the tag, ModuleLocal
abbrev pub load_jsx : Bytes → ℕ → InstructionV
load_jsx tag load = row load_global_kind (place_of 5 load) (Some tag) 4 []

-- the element: the root's result place, the load as tag, all entries as attributes, no child list
abbrev pub jsx_expr : ℕ → List OutlinedJsxAttribute → InstructionV → InstructionV
jsx_expr load es root = row jsx_kind root.result None 0 (place_of 1 load ∷ map as_attribute es)

-- the two rows of the call
abbrev pub emit_outlined_jsx : Bytes → ℕ → List OutlinedJsxAttribute → InstructionV → List InstructionV
emit_outlined_jsx tag load es root = load_jsx tag load ∷ jsx_expr load es root ∷ []

-- The function: the Rust's `emit_outlined_fn`.

-- a Let of an object pattern: it reads the parameter and writes the mapped places in the table's order
abbrev pub bound_place : Bound → PlaceV
bound_place b = named_place 5 (Some b.key) b.fresh

-- the Destructure row, with its result
abbrev pub emit_destructure_props : ℕ → ℕ → List Bound → InstructionV
emit_destructure_props param result table = row destructure_kind (place_of 5 result) None 9 (place_of 0 param ∷ map bound_place table)

-- the tag places of the members, in order
abbrev pub tag_places : List InstructionV → List PlaceV
tag_places ms = select (role_is 1) (gathered (λ (m : InstructionV). m.places) ms)

-- the load among the globals that writes an identifier
abbrev pub find_global : List InstructionV → ℕ → Option InstructionV
find_global [] x = None
find_global (g ∷ gs) x = elim (g.result.identifier == x) [ true ↦ Some g | false ↦ find_global gs x ]

-- a copy of the load of each tag place, or none if one is missing from the globals
abbrev pub emit_load_globals : List InstructionV → List PlaceV → Option (List InstructionV)
emit_load_globals globals [] = Some []
emit_load_globals globals (p ∷ ps) = elim (find_global globals p.identifier) [
  | None ↦ None
  | Some g ↦ elim (emit_load_globals globals ps) [ None ↦ None | Some gs ↦ Some (g ∷ gs) ]
]

-- attributes on the mapped places under their own names, without key; children on the mapped places, those that are members kept
abbrev pub updated_places : List ℕ → List Bound → List PlaceV → List PlaceV
updated_places members table [] = []
updated_places members table (p ∷ ps) =
    let rest : List PlaceV = updated_places members table ps in
    elim (role_is 2 p) [
      | true ↦ elim (is_key p.name) [ true ↦ rest | false ↦ named_place 2 p.name (latest table p.identifier) ∷ rest ]
      | false ↦ elim (role_is 4 p && not (within p.identifier members)) [ true ↦ place_of 4 (latest table p.identifier) ∷ rest | false ↦ p ∷ rest ]
    ]

-- a member rebuilt; its other fields are kept
abbrev pub updated : List ℕ → List Bound → InstructionV → InstructionV
updated members table m = record { order = m.order; kind = m.kind; result = m.result; name = m.name; detail = m.detail; function = m.function; places = updated_places members table m.places; span = m.span; opening = m.opening; closing = m.closing; effects = m.effects }

-- all members rebuilt
abbrev pub emit_updated_jsx : List Bound → List InstructionV → List InstructionV
emit_updated_jsx table ms = map (updated (results ms) table) ms

-- the last member is the root
abbrev pub last_of : InstructionV → List InstructionV → InstructionV
last_of m [] = m
last_of m (n ∷ ns) = last_of n ns

-- a result place as the terminal reads it
abbrev pub returning : PlaceV → PlaceV
returning p = record { role = 0; name = p.name; identifier = p.identifier; effect = p.effect; reactive = p.reactive; span = p.span }

-- A tag taken, with the fresh identifiers that come before the return place: the load, those of the table, the parameter and, next
-- after it, the Destructure's result.
pub record Prepared : Type 0 where
  pub hir : Hir
  pub tag : Bytes
  pub load : ℕ
  pub table : List Bound
  pub param : ℕ

-- one block, which lists the Destructure, the tag loads and the members, and returns the root (terminal 3 Return, detail 2 Explicit)
abbrev pub emit_outlined_fn : Prepared → InstructionV → List InstructionV → List InstructionV → FunctionV
emit_outlined_fn t m ms loads = record {
  type = 2;
  blocks = record {
    kind = 0;
    terminal = 3;
    detail = 2;
    places = returning (last_of m ms).result ∷ [];
    rows = emit_destructure_props t.param (suc t.param) t.table ∷ (loads ++ emit_updated_jsx t.table (m ∷ ms));
    preds = [];
  } ∷ [];
  params = place_of 5 t.param ∷ [];
  context = [];
  returns = place_of 5 (suc (suc t.param));
  tag = Some t.tag;
  appended = true;
}

-- What becomes of a group: the Rust's `process_jsx_group`.

-- the counter counts tags taken, the mark is the number of the latest
abbrev pub take_tag : Hir → Hir
take_tag h = record { identifiers = h.identifiers; functions = h.functions; bears = h.bears; used_rows = h.used_rows; counter = suc h.counter; mark = next_tag h; text = h.text ++ tag_name (next_tag h) }

-- the tag, then the fresh identifiers in their order
abbrev pub prepare : Hir → List OutlinedJsxAttribute → Prepared
prepare h es =
    let load : ℕ = length h.identifiers in
    let bound : Mapping = create_old_to_new_props_mapping (write (fresh (take_tag h) (promoted (tag_temporary load))) (tag_temporary load)) es in
    let param : ℕ = length bound.hir.identifiers in
    record {
      hir = fresh (write (fresh bound.hir (promoted (temporary param))) (temporary param)) absent;
      tag = tag_name (next_tag h);
      load = load;
      table = bound.table;
      param = param;
    }

-- The function is appended; its rows and the two of its call are taken, and with the call's load a row bears the tag. The copied
-- loads bear names that were borne already.
abbrev pub outline_function : Hir → FunctionV → Bytes → Hir
outline_function h f tag = record {
  identifiers = h.identifiers;
  functions = h.functions ++ (f ∷ []);
  bears = λ n. h.bears n || same_bytes n tag;
  used_rows = h.used_rows + (2 + length (function_rows f));
  counter = h.counter;
  mark = h.mark;
  text = h.text;
}

-- functions appended, tags abandoned, properties bound
pub record Report : Type 0 where
  pub functions : ℕ
  pub abandoned : ℕ
  pub properties : ℕ

-- nothing to report
abbrev pub nothing : Report
nothing = record { functions = 0; abandoned = 0; properties = 0 }

-- two reports as one
abbrev pub add : Report → Report → Report
add a b = record { functions = a.functions + b.functions; abandoned = a.abandoned + b.abandoned; properties = a.properties + b.properties }

-- the rows that are to stand in the place of a root, which is known by its result
pub record Rewrite : Type 0 where
  pub root : ℕ
  pub rows : List InstructionV

-- the store, what roots are to become, and what is to be reported
pub record Outcome : Type 0 where
  pub hir : Hir
  pub rewrites : List Rewrite
  pub report : Report

-- With a missing load the tag is abandoned: identifiers and names stay, no row bears it and none is taken. Else the return place is
-- the last fresh identifier, the tag is put on the function, and the root is to become the call.
abbrev pub outcome : Prepared → List OutlinedJsxAttribute → InstructionV → List InstructionV → Option (List InstructionV) → Outcome
outcome t es m ms None = record { hir = t.hir; rewrites = []; report = record { functions = 0; abandoned = 1; properties = 0 } }
outcome t es m ms (Some loads) = record {
  hir = outline_function (fresh t.hir absent) (emit_outlined_fn t m ms loads) t.tag;
  rewrites = record { root = (last_of m ms).result.identifier; rows = emit_outlined_jsx t.tag t.load es (last_of m ms) } ∷ [];
  report = record { functions = 1; abandoned = 0; properties = length t.table };
}

-- the tag is taken before the loads are looked for
abbrev pub emit : List InstructionV → InstructionV → List InstructionV → Hir → List OutlinedJsxAttribute → Outcome
emit globals m ms h es = outcome (prepare h es) es m ms (emit_load_globals globals (tag_places (m ∷ ms)))

-- nothing comes of it but the store
abbrev pub done : Hir → Outcome
done h = record { hir = h; rewrites = []; report = nothing }

-- a group of one, or in a Component, is left alone, and after a spread nothing is emitted
abbrev pub process_jsx_group : ℕ → List InstructionV → List InstructionV → Hir → Outcome
process_jsx_group type globals [] h = done h
process_jsx_group type globals (m ∷ []) h = done h
process_jsx_group type globals (m ∷ n ∷ ms) h =
    elim (type == 0) [
      | true ↦ done h
      | false ↦
          let g : Gathering = collect_props h (m ∷ n ∷ ms) in
          elim g.ended [ true ↦ done g.hir | false ↦ emit globals m (n ∷ ms) g.hir g.entries ]
    ]
