-- What the owned tables of a screen are as a store.
use Rattle.std.specs.Prelude.{◌≡◌, vec_items, vec_len}
use Rattle.hir.specs.declared.Counts.{Counts}
use Rattle.hir.specs.declared.Store.{Store}
use Rattle.screen.specs.declared.Screen.{Screen}

-- every row is used, and no tag is taken
abbrev pub all_used : Screen → Counts
all_used s = record { text = vec_len s.text; identifiers = vec_len s.identifiers; places = vec_len s.places; instructions = vec_len s.instructions; numbers = vec_len s.numbers; blocks = vec_len s.blocks; functions = vec_len s.functions; tag_counter = 0; tag_mark = 0 }

-- the counts of a screen without rows
abbrev pub no_rows : Counts
no_rows = record { text = 0; identifiers = 0; places = 0; instructions = 0; numbers = 0; blocks = 0; functions = 0; tag_counter = 0; tag_mark = 0 }

-- each table of the store holds the rows of the screen's
pub record Lent (s : Screen) (counts : Counts) (r : Store) : Type 0 where
  pub counted : r.counts ≡ counts
  pub text : r.text.now ≡ vec_items s.text
  pub identifiers : r.identifiers.now ≡ vec_items s.identifiers
  pub places : r.places.now ≡ vec_items s.places
  pub instructions : r.instructions.now ≡ vec_items s.instructions
  pub numbers : r.numbers.now ≡ vec_items s.numbers
  pub blocks : r.blocks.now ≡ vec_items s.blocks
  pub functions : r.functions.now ≡ vec_items s.functions
