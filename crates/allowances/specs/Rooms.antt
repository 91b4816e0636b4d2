-- What is allowed of each table, and room for it.
use Rattle.std.specs.Prelude.{◌≡◌, ◌^◌, ◌<◌, length}
use Rattle.laws.specs.Allowances.{Counts, identifiers_allowed, instructions_allowed, numbers_allowed, places_allowed, blocks_allowed, functions_allowed, text_allowed}
use Rattle.hir.specs.Tables.{Tables}
use Rattle.hir.specs.WellFormed.{Room, text_limit, identifiers_limit, places_limit, instructions_limit, numbers_limit, blocks_limit, functions_limit}
use Rattle.allowances.specs.declared.Allowances.{Allowances}

-- These are the allowances of the counts.
pub record Allowed (c : Counts) (a : Allowances) : Type 0 where
  pub identifiers : a.identifiers ≡ identifiers_allowed c
  pub instructions : a.instructions ≡ instructions_allowed c
  pub numbers : a.numbers ≡ numbers_allowed c
  pub places : a.places ≡ places_allowed c
  pub blocks : a.blocks ≡ blocks_allowed c
  pub functions : a.functions ≡ functions_allowed c
  pub text : a.text ≡ text_allowed c

-- Each allowance of the counts fits 64 bits.
pub record Allowable (c : Counts) : Type 0 where
  pub identifiers : identifiers_allowed c < 2 ^ 64
  pub instructions : instructions_allowed c < 2 ^ 64
  pub numbers : numbers_allowed c < 2 ^ 64
  pub places : places_allowed c < 2 ^ 64
  pub blocks : blocks_allowed c < 2 ^ 64
  pub functions : functions_allowed c < 2 ^ 64
  pub text : text_allowed c < 2 ^ 64

-- Each table has room for what is allowed of it.
pub record HasRoom (t : Tables) (a : Allowances) : Type 0 where
  pub text : Room t.counts.text a.text (length t.text) text_limit
  pub identifiers : Room t.counts.identifiers a.identifiers (length t.identifiers) identifiers_limit
  pub places : Room t.counts.places a.places (length t.places) places_limit
  pub instructions : Room t.counts.instructions a.instructions (length t.instructions) instructions_limit
  pub numbers : Room t.counts.numbers a.numbers (length t.numbers) numbers_limit
  pub blocks : Room t.counts.blocks a.blocks (length t.blocks) blocks_limit
  pub functions : Room t.counts.functions a.functions (length t.functions) functions_limit
