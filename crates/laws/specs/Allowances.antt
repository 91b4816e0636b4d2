-- How much an outline may take of each table, counted beforehand on the functions that it walks.
use Rattle.std.specs.Prelude.{ℕ, ◌+◌, ◌*◌, ◌/◌, true, false, List, [], ◌∷◌, length, drop, ◌==◌, nat_le}
use Rattle.rules.specs.Lists.{select, gathered}
use Rattle.rules.specs.Views.{PlaceV, InstructionV, BlockV, FunctionV, Hir, role_is, is_element, function_at}
use Rattle.rules.specs.Names.{spell}
use Rattle.rules.specs.Drawn.{inner, inner_of, on_walk}

-- What is counted: attributes, children, elements, the elements of each block halved, the rows of new lists, and the bytes of attribute names.
pub record Counts : Type 0 where
  pub attributes : ℕ
  pub children : ℕ
  pub elements : ℕ
  pub pairs : ℕ
  pub listed : ℕ
  pub letters : ℕ

-- nothing counted
abbrev pub no_counts : Counts
no_counts = record { attributes = 0; children = 0; elements = 0; pairs = 0; listed = 0; letters = 0 }

-- counted together
abbrev pub plus : Counts → Counts → Counts
plus a b = record { attributes = a.attributes + b.attributes; children = a.children + b.children; elements = a.elements + b.elements; pairs = a.pairs + b.pairs; listed = a.listed + b.listed; letters = a.letters + b.letters }

-- the bytes of the names of places
abbrev pub letters_of : List PlaceV → ℕ
letters_of [] = 0
letters_of (p ∷ ps) = length (spell p.name) + letters_of ps

-- an element counts its attributes, its children, itself and the bytes of its attributes' names
abbrev pub element_counts : InstructionV → Counts
element_counts i = record { attributes = length (select (role_is 2) i.places); children = length (select (role_is 4) i.places); elements = 1; pairs = 0; listed = 0; letters = letters_of (select (role_is 2) i.places) }

-- other rows count nothing
abbrev pub row_counts : InstructionV → Counts
row_counts i = elim (is_element i) [ true ↦ element_counts i | false ↦ no_counts ]

-- some rows together
abbrev pub rows_counts : List InstructionV → Counts
rows_counts [] = no_counts
rows_counts (i ∷ is) = plus (row_counts i) (rows_counts is)

-- a block has at most half as many groups of two or more as it has elements
abbrev pub pairs_of : ℕ → ℕ
pairs_of elements = elements / 2

-- where there can be a group, the block's new list has a row more for each
abbrev pub listed_of : ℕ → ℕ → ℕ
listed_of elements rows = elim (nat_le 2 elements) [ true ↦ rows + pairs_of elements | false ↦ 0 ]

-- these two of a block
abbrev pub halved : ℕ → ℕ → Counts
halved elements rows = record { attributes = 0; children = 0; elements = 0; pairs = pairs_of elements; listed = listed_of elements rows; letters = 0 }

-- a block counts its rows, its groups and its new list
abbrev pub block_counts : List InstructionV → Counts
block_counts rows = plus (rows_counts rows) (halved (rows_counts rows).elements (length rows))

-- some blocks together
abbrev pub blocks_counts : List BlockV → Counts
blocks_counts [] = no_counts
blocks_counts (b ∷ bs) = plus (block_counts b.rows) (blocks_counts bs)

-- nothing is outlined in a Component, so it counts nothing
abbrev pub outside_components : ℕ → Counts → Counts
outside_components type c = elim (type == 0) [ true ↦ no_counts | false ↦ c ]

-- a function counts its blocks
abbrev pub function_counts : FunctionV → Counts
function_counts f = outside_components f.type (blocks_counts f.blocks)

-- some functions together, by number
abbrev pub tally : (ℕ → Counts) → List ℕ → Counts
tally c [] = no_counts
tally c (x ∷ xs) = plus (c x) (tally c xs)

-- the functions on the walk from a function, to a depth
abbrev pub walk_counts : ℕ → Hir → ℕ → Counts
walk_counts d h f = tally (λ g. function_counts (function_at h g)) (on_walk d h f)

-- what is left of the walk through a function from block k on, with the functions that are reached from there
abbrev pub rest_counts : ℕ → Hir → ℕ → ℕ → Counts
rest_counts d h f k =
    let bs : List BlockV = drop k (function_at h f).blocks in
    plus (outside_components (function_at h f).type (blocks_counts bs)) (tally (λ g. function_counts (function_at h g)) (gathered (on_walk d h) (inner_of bs)))

-- what is left of a block: the rows still to be passed, the open group's members, the groups that these can make, and the inner functions
abbrev pub open_counts : List InstructionV → List InstructionV → Counts
open_counts todo members =
    let c : Counts = plus (rows_counts todo) (rows_counts members) in
    plus c (record { attributes = 0; children = 0; elements = 0; pairs = pairs_of c.elements; listed = 0; letters = 0 })

abbrev pub ahead_counts : ℕ → Hir → ℕ → List InstructionV → List InstructionV → Counts
ahead_counts d h type members todo = plus (outside_components type (open_counts todo members)) (tally (λ g. function_counts (function_at h g)) (gathered (on_walk d h) (inner todo)))

-- The allowances, table by table.

-- identifiers: one for each entry; the load, the parameter, the Destructure result and the return place for each group
abbrev pub identifiers_allowance : ℕ → ℕ → ℕ → ℕ
identifiers_allowance attributes children pairs = attributes + children + 4 * pairs

-- rows: a Destructure and the two rows of the call for each group, a tag load and a rebuilt member for each element
abbrev pub instructions_allowance : ℕ → ℕ → ℕ
instructions_allowance elements pairs = 3 * pairs + 2 * elements

-- list numbers: the lists of the functions' blocks, and the new lists
abbrev pub numbers_allowance : ℕ → ℕ → ℕ → ℕ
numbers_allowance elements pairs listed = pairs + 2 * elements + listed

-- places: what the Destructure reads, the parameter, the terminal's place and the call's tag for each group; the tag of each
-- element; and each attribute and child as bound, as rebuilt and as passed by the call
abbrev pub places_allowance : ℕ → ℕ → ℕ → ℕ → ℕ
places_allowance attributes children elements pairs = 4 * pairs + elements + 3 * (attributes + children)

-- blocks and functions: one for each group
abbrev pub blocks_allowance : ℕ → ℕ
blocks_allowance pairs = pairs

abbrev pub functions_allowance : ℕ → ℕ
functions_allowance pairs = pairs

-- text: an attribute's name with ten digits; for a child #t with ten digits and t with ten digits; for each group #T and #t with five
-- digits each, and _temp with twenty
abbrev pub text_allowance : ℕ → ℕ → ℕ → ℕ → ℕ
text_allowance letters attributes children pairs = letters + 10 * attributes + 23 * children + 39 * pairs

-- The same of the counts.

abbrev pub identifiers_allowed : Counts → ℕ
identifiers_allowed c = identifiers_allowance c.attributes c.children c.pairs

abbrev pub instructions_allowed : Counts → ℕ
instructions_allowed c = instructions_allowance c.elements c.pairs

abbrev pub numbers_allowed : Counts → ℕ
numbers_allowed c = numbers_allowance c.elements c.pairs c.listed

abbrev pub places_allowed : Counts → ℕ
places_allowed c = places_allowance c.attributes c.children c.elements c.pairs

abbrev pub blocks_allowed : Counts → ℕ
blocks_allowed c = blocks_allowance c.pairs

abbrev pub functions_allowed : Counts → ℕ
functions_allowed c = functions_allowance c.pairs

abbrev pub text_allowed : Counts → ℕ
text_allowed c = text_allowance c.letters c.attributes c.children c.pairs
