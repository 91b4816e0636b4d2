-- The frame: what every write leaves as it was.
use Rattle.std.specs.Prelude.{◌≡◌, ℕ, ◌≤◌, List, map, length, take, drop}
use Rattle.rules.specs.Views.{Hir}
use Rattle.hir.specs.declared.rows.Store.{Store}
use Rattle.hir.specs.declared.rows.Identifier.{Identifier}
use Rattle.hir.specs.declared.rows.Place.{Place}
use Rattle.hir.specs.declared.rows.Instruction.{Instruction}
use Rattle.hir.specs.declared.rows.BasicBlock.{BasicBlock}
use Rattle.hir.specs.declared.rows.HirFunction.{HirFunction}
use Rattle.hir.specs.Tables.{Tables, tables, Held}
use Rattle.hir.specs.View.{null_run, view}
use Rattle.hir.specs.WellFormed.{WellFormed}

-- One table, of which m rows were used and n are now: no fewer rows are used, the table is as long as it was, the rows that are still
-- spare have their bytes, and so has a part of each row that was used.
pub record Onward {A B : Type 0} (part : A → B) (m n : ℕ) (xs ys : List A) : Type 0 where
  pub more : m ≤ n
  pub long : length ys ≡ length xs
  pub spare : drop n ys ≡ drop n xs
  pub kept : map part (take m ys) ≡ map part (take m xs)

-- The parts that are kept: of most tables the whole row; of an identifier its declaration number, since it can be promoted; of a block
-- all but its list; of the list table nothing.

abbrev pub whole : {A : Type 0} → A → A
whole x = x

abbrev pub declaration_of : Identifier → ℕ
declaration_of x = x.declaration

abbrev pub without_list : BasicBlock → BasicBlock
without_list b = record { kind = b.kind; terminal = b.terminal; detail = b.detail; places = b.places; instructions = null_run; preds = b.preds }

abbrev pub nothing_of : ℕ → ℕ
nothing_of n = 0

pub record AllOnward (t u : Tables) : Type 0 where
  pub text : Onward (whole {A = ℕ}) t.counts.text u.counts.text t.text u.text
  pub identifiers : Onward declaration_of t.counts.identifiers u.counts.identifiers t.identifiers u.identifiers
  pub places : Onward (whole {A = Place}) t.counts.places u.counts.places t.places u.places
  pub instructions : Onward (whole {A = Instruction}) t.counts.instructions u.counts.instructions t.instructions u.instructions
  pub numbers : Onward nothing_of t.counts.numbers u.counts.numbers t.numbers u.numbers
  pub blocks : Onward without_list t.counts.blocks u.counts.blocks t.blocks u.blocks
  pub functions : Onward (whole {A = HirFunction}) t.counts.functions u.counts.functions t.functions u.functions

-- The frame of a call, from t to u. It is shut, so that a proof that is handed it does not look inside.
pub data Kept (t u : Tables) : Type 0 where
  onwards : AllOnward t u → Kept t u

-- What a write does to a well-formed store: these tables byte for byte, this view, well formed again, the frame, and the same slices.
pub record Becomes (before after : Store) (t : Tables) (h : Hir) : Type 0 where
  pub writes : tables after ≡ t
  pub seen : view (tables after) ≡ h
  pub well : WellFormed (tables after)
  pub kept : Kept (tables before) (tables after)
  pub held : Held after before
