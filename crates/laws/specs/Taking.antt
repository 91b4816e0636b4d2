-- What a walk takes of a table that the view does not show. It follows the walk step by step, so that code can say at each step that
-- what is taken so far and what the rest takes is what the whole takes.
use Rattle.std.specs.Prelude.{ℕ, zero, suc, ◌+◌, true, false, List, [], ◌∷◌, length}
use Rattle.rules.specs.Lists.{gathered, backwards, within}
use Rattle.rules.specs.Views.{InstructionV, BlockV, FunctionV, Hir, is_element, is_global, is_function, function_rows, function_at, rows_at}
use Rattle.rules.specs.Emit.{Rewrite, Outcome, nothing, process_jsx_group}
use Rattle.rules.specs.Eliminations.{Meaning}
use Rattle.rules.specs.Outline.{Walk, children, passed, walk_back, rewritten, start_block, walk_block, outline_jsx_impl}

-- of one table: what a group takes, by the store before it and what came of it, and what a block's new list takes
pub record Price : Type 0 where
  pub group : Hir → Outcome → ℕ
  pub list : List InstructionV → ℕ

-- what closing the open group takes
abbrev pub closing : Price → ℕ → Walk → ℕ
closing p type w = p.group w.hir (process_jsx_group type w.globals w.members w.hir)

-- passing one row: an inner function takes what its own walk does
abbrev pub passing : Price → (Hir → ℕ → ℕ) → ℕ → Walk → InstructionV → ℕ
passing p inside type w i =
    elim (is_global i) [
      | true ↦ 0
      | false ↦ elim (is_function i) [
        | true ↦ inside w.hir i.function
        | false ↦ elim (is_element i) [
          | true ↦ elim (within i.result.identifier (children w.members)) [ true ↦ 0 | false ↦ closing p type w ]
          | false ↦ 0
        ]
      ]
    ]

-- passing the rows from the last to the first; at the block's start the open group closes too
abbrev pub going_back : Price → (Hir → ℕ → Outcome) → (Hir → ℕ → ℕ) → ℕ → Walk → List InstructionV → ℕ
going_back p inner inside type w [] = closing p type w
going_back p inner inside type w (i ∷ is) = passing p inside type w i + going_back p inner inside type (passed inner type w i) is

-- a new list is written only where a group was outlined
abbrev pub relisting : Price → List Rewrite → List InstructionV → ℕ
relisting p [] rows = 0
relisting p (r ∷ rs) rows = p.list (rewritten (r ∷ rs) rows)

-- one block, with its list as it then stands
abbrev pub block_takes : Price → (Hir → ℕ → Outcome) → (Hir → ℕ → ℕ) → ℕ → ℕ → Walk → ℕ
block_takes p inner inside f k w =
    let type : ℕ = (function_at w.hir f).type in
    let start : Walk = start_block w.hir w.globals w.report in
    let rows : List InstructionV = rows_at w.hir f k in
    let v : Walk = walk_back inner type start (backwards rows) in
    going_back p inner inside type start (backwards rows) + relisting p v.rewrites (rows_at v.hir f k)

-- n blocks, from block k on
abbrev pub blocks_take : ℕ → Price → Meaning → (Hir → ℕ → Outcome) → (Hir → ℕ → ℕ) → ℕ → ℕ → Walk → ℕ
blocks_take zero p m inner inside f k w = 0
blocks_take (suc n) p m inner inside f k w = block_takes p inner inside f k w + blocks_take n p m inner inside f (suc k) (walk_block m inner f k w)

-- what the walk from a function takes, to a depth
abbrev pub takes : Price → ℕ → Meaning → Hir → ℕ → ℕ
takes p zero m h f = 0
takes p (suc d) m h f = blocks_take (length (function_at h f).blocks) p m (outline_jsx_impl d m) (takes p d m) f 0 (start_block h [] nothing)

-- Prices.

-- the function that a group appends to a store
abbrev pub appended_by : Hir → Outcome → FunctionV
appended_by h o = function_at o.hir (length h.functions)

-- how many places some rows have
abbrev pub places_of : List InstructionV → ℕ
places_of rows = length (gathered (λ (i : InstructionV). i.places) rows)

-- how many places the terminals of some blocks have
abbrev pub terminal_places : List BlockV → ℕ
terminal_places [] = 0
terminal_places (b ∷ bs) = length b.places + terminal_places bs

-- places: those of the function's rows, its terminal and its parameters, and of the rows that stand in the root's place
abbrev pub group_places : Hir → Outcome → ℕ
group_places h o = elim o.rewrites [ [] ↦ 0 | r ∷ rs ↦ places_of (function_rows (appended_by h o)) + terminal_places (appended_by h o).blocks + length (appended_by h o).params + length (appended_by h o).context + places_of r.rows ]

-- list numbers: the list of the function's block
abbrev pub group_numbers : Hir → Outcome → ℕ
group_numbers h o = elim o.rewrites [ [] ↦ 0 | r ∷ rs ↦ length (function_rows (appended_by h o)) ]

-- the price in places: a new list takes none
abbrev pub places : Price
places = record { group = group_places; list = λ rows. 0 }

-- the price in list numbers: a new list takes one for each row
abbrev pub numbers : Price
numbers = record { group = group_numbers; list = λ rows. length rows }
