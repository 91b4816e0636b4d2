-- The allowances of the worked tile, and what its outline takes.
use Rattle.std.specs.Prelude.{◌≡◌, length}
use Rattle.rules.specs.Eliminations.{sweep}
use Rattle.rules.specs.Outline.{outline_jsx, depth}
use Rattle.rules.specs.Cases.{nested}
use Rattle.rules.specs.WorkedRun.{passed_on}
use Rattle.laws.specs.Allowances.{Counts, walk_counts, identifiers_allowed, instructions_allowed, numbers_allowed, places_allowed, text_allowed}
use Rattle.laws.specs.Taking.{takes, numbers, places}
use Rattle.laws.specs.Sufficing.{WalkFormed}
use Rattle.laws.specs.Ceilings.{WithinLimits}

-- the counts of the tile: two elements with an attribute each, one of them the other's child
abbrev pub tile_counts : Counts
tile_counts = walk_counts depth nested 0

pub record WorkedAllowances : Type 0 where
  pub counts : tile_counts ≡ record { attributes = 2; children = 1; elements = 2; pairs = 1; listed = 4; letters = 2 }
  -- seven identifiers are allowed, and the outline takes six, since the child is a member
  pub identifiers : identifiers_allowed tile_counts ≡ 7
  pub identifiers_taken : length (outline_jsx sweep nested 0).hir.identifiers ≡ 11
  -- seven rows are allowed, and six taken: only one element has a tag load
  pub instructions : instructions_allowed tile_counts ≡ 7
  pub instructions_taken : (outline_jsx sweep nested 0).hir.used_rows ≡ 9
  -- nine list numbers and fifteen places are allowed, eight and twelve taken
  pub numbers_allowance : numbers_allowed tile_counts ≡ 9
  pub numbers_taken : takes numbers depth sweep nested 0 ≡ 8
  pub places_allowance : places_allowed tile_counts ≡ 15
  pub places_taken : takes places depth sweep nested 0 ≡ 12
  -- eighty-four bytes are allowed, thirteen written
  pub text : text_allowed tile_counts ≡ 84
  pub text_taken : length (outline_jsx sweep nested 0).hir.text ≡ 13
  -- the store of the worked run, which is accepted, is of the form and within the limits that the laws ask for
  pub formed : WalkFormed depth passed_on 0
  pub limits : WithinLimits passed_on 0
