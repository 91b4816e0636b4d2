-- The walk: which JSX rows make a group, when it closes, and what the blocks list then.
use Rattle.std.specs.Prelude.{ℕ, zero, suc, true, false, ◌&&◌, List, [], ◌∷◌, ◌++◌, length, ◌==◌}
use Rattle.rules.specs.Lists.{select, gathered, backwards, within}
use Rattle.rules.specs.Views.{InstructionV, Hir, role_is, identifiers_of, is_global, is_element, is_function, function_at, rows_at, with_list}
use Rattle.rules.specs.Emit.{Report, nothing, add, Rewrite, Outcome, done, process_jsx_group}
use Rattle.rules.specs.Eliminations.{Meaning, eliminated}

-- What the walk through a function has: the store, the loads passed (the globals of the function), the open group with its members in
-- block order, what the roots of this block are to become, and the report so far.
pub record Walk : Type 0 where
  pub hir : Hir
  pub globals : List InstructionV
  pub members : List InstructionV
  pub rewrites : List Rewrite
  pub report : Report

-- the children of these rows
abbrev pub children : List InstructionV → List ℕ
children ms = identifiers_of (select (role_is 4) (gathered (λ (m : InstructionV). m.places) ms))

-- the group closes, by the globals of that moment
abbrev pub process_and_outline_jsx : ℕ → Walk → Walk
process_and_outline_jsx type w =
    let o : Outcome = process_jsx_group type w.globals w.members w.hir in
    record { hir = o.hir; globals = w.globals; members = []; rewrites = o.rewrites ++ w.rewrites; report = add w.report o.report }

-- a row joins the open group, before its other members
abbrev pub joined : Walk → InstructionV → Walk
joined w i = record { hir = w.hir; globals = w.globals; members = i ∷ w.members; rewrites = w.rewrites; report = w.report }

-- A row is passed: a load is added to the globals, an inner function is walked, and an element joins the group if one of its members has it
-- as a child, and else begins a new group once the old one is closed.
abbrev pub passed : (Hir → ℕ → Outcome) → ℕ → Walk → InstructionV → Walk
passed inner type w i =
    elim (is_global i) [
      | true ↦ record { hir = w.hir; globals = i ∷ w.globals; members = w.members; rewrites = w.rewrites; report = w.report }
      | false ↦ elim (is_function i) [
        | true ↦
            let o : Outcome = inner w.hir i.function in
            record { hir = o.hir; globals = w.globals; members = w.members; rewrites = w.rewrites; report = add w.report o.report }
        | false ↦ elim (is_element i) [
          | true ↦ elim (within i.result.identifier (children w.members)) [ true ↦ joined w i | false ↦ joined (process_and_outline_jsx type w) i ]
          | false ↦ w
        ]
      ]
    ]

-- the rows from the last to the first; at the block's start the open group closes too
abbrev pub walk_back : (Hir → ℕ → Outcome) → ℕ → Walk → List InstructionV → Walk
walk_back inner type w [] = process_and_outline_jsx type w
walk_back inner type w (i ∷ is) = walk_back inner type (passed inner type w i) is

-- the block's new list: each outlined root becomes the rows of its call
abbrev pub rewritten_row : List Rewrite → InstructionV → List InstructionV
rewritten_row [] i = i ∷ []
rewritten_row (r ∷ rs) i = elim (is_element i && r.root == i.result.identifier) [ true ↦ r.rows | false ↦ rewritten_row rs i ]

-- for all rows of the block
abbrev pub rewritten : List Rewrite → List InstructionV → List InstructionV
rewritten rs is = gathered (rewritten_row rs) is

-- at the block's end: its new list, and elimination, if any group was outlined
abbrev pub finished : Meaning → ℕ → ℕ → Walk → Hir
finished m f k w = elim w.rewrites [ [] ↦ w.hir | r ∷ rs ↦ eliminated m (with_list w.hir f k (rewritten w.rewrites (rows_at w.hir f k))) f ]

-- between blocks no group is open; the globals stay
abbrev pub start_block : Hir → List InstructionV → Report → Walk
start_block h globals r = record { hir = h; globals = globals; members = []; rewrites = []; report = r }

-- block k of function f, with its list as it then stands
abbrev pub walk_block : Meaning → (Hir → ℕ → Outcome) → ℕ → ℕ → Walk → Walk
walk_block m inner f k w =
    let v : Walk = walk_back inner (function_at w.hir f).type (start_block w.hir w.globals w.report) (backwards (rows_at w.hir f k)) in
    start_block (finished m f k v) v.globals v.report

-- n blocks in order, from block k on
abbrev pub walk_blocks : ℕ → Meaning → (Hir → ℕ → Outcome) → ℕ → ℕ → Walk → Walk
walk_blocks zero m inner f k w = w
walk_blocks (suc n) m inner f k w = walk_blocks n m inner f (suc k) (walk_block m inner f k w)

-- a function and the functions in it, d deep
abbrev pub outline_jsx_impl : ℕ → Meaning → Hir → ℕ → Outcome
outline_jsx_impl zero m h f = done h
outline_jsx_impl (suc d) m h f =
    let w : Walk = walk_blocks (length (function_at h f).blocks) m (outline_jsx_impl d m) f 0 (start_block h [] nothing) in
    record { hir = w.hir; rewrites = []; report = w.report }

-- functions are nested 32 deep at most, the first being 1
abbrev pub depth : ℕ
depth = 32

-- outlining function f, with the elimination of that meaning
abbrev pub outline_jsx : Meaning → Hir → ℕ → Outcome
outline_jsx m h f = outline_jsx_impl depth m h f
