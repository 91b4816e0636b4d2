-- How far an outline can go on a store within the limits.
use Rattle.std.specs.Prelude.{ℕ, ◌+◌, ◌^◌, ◌<◌, ◌≤◌, List, length}
use Rattle.rules.specs.Lists.{select}
use Rattle.rules.specs.Views.{PlaceV, Hir, role_is}
use Rattle.rules.specs.Props.{gather, start_gathering}
use Rattle.rules.specs.Eliminations.{Meaning}
use Rattle.rules.specs.Outline.{outline_jsx, depth}
use Rattle.rules.specs.Drawn.{FewBorne}
use Rattle.laws.specs.Staying.{identifier_at}
use Rattle.laws.specs.Allowances.{walk_counts, identifiers_allowed, instructions_allowed, functions_allowed, text_allowed}
use Rattle.laws.specs.Sufficing.{OfEveryWalk}

-- the most that the tag counter and the tag mark can come to
abbrev pub counter_ceiling : ℕ
counter_ceiling = 1001024

abbrev pub mark_ceiling : ℕ
mark_ceiling = 1132094

-- The counter of a group's made names fits 32 bits: with at most 65,535 props it rises at each by no more tries than there are names
-- seen and one.
abbrev pub name_counter_ceiling : ℕ
name_counter_ceiling = 4294901761

abbrev pub NameCounterBelow : Type 0
NameCounterBelow = (h : Hir) (members : List ℕ) (ps : List PlaceV) → length (select (role_is 2) ps) + length (select (role_is 4) ps) ≤ 65535 → (gather members (start_gathering h) ps).counter ≤ name_counter_ceiling

-- A store within the limits, with room for the allowances of the walk from a function: at most 65,535 identifiers and rows and 1,024
-- functions when it is done, a tag counter and a tag mark of at most 1,000,000, and declaration numbers of 32 bits. Rows bear no more
-- names than there are rows.
pub record WithinLimits (h : Hir) (f : ℕ) : Type 0 where
  pub identifiers : length h.identifiers + identifiers_allowed (walk_counts depth h f) ≤ 65535
  pub instructions : h.used_rows + instructions_allowed (walk_counts depth h f) ≤ 65535
  pub functions : length h.functions + functions_allowed (walk_counts depth h f) ≤ 1024
  pub counter : h.counter ≤ 1000000
  pub mark : h.mark ≤ 1000000
  pub declarations : (x : ℕ) → x < length h.identifiers → (identifier_at h x).declaration < 2 ^ 32
  pub borne : FewBorne h

-- Then the text that the outline makes is within its allowance: a made name has at most ten bytes more than its old name, a promoted
-- name at most twelve, a tag at most twenty-five.
abbrev pub TextSuffices : Type 0
TextSuffices = OfEveryWalk (λ m h f. WithinLimits h f → length (outline_jsx m h f).hir.text ≤ length h.text + text_allowed (walk_counts depth h f))

-- the tag counter stays below its ceiling
abbrev pub CounterBelow : Type 0
CounterBelow = OfEveryWalk (λ m h f. WithinLimits h f → (outline_jsx m h f).hir.counter ≤ counter_ceiling)

-- and so does the tag mark
abbrev pub MarkBelow : Type 0
MarkBelow = OfEveryWalk (λ m h f. WithinLimits h f → (outline_jsx m h f).hir.mark ≤ mark_ceiling)

-- since it rises by the tags taken and the names that they passed over, all of which identifiers or rows bear in the end
abbrev pub MarkRises : Type 0
MarkRises = (m : Meaning) (h : Hir) (f : ℕ) → FewBorne h
    → (outline_jsx m h f).hir.mark ≤ h.mark + ((outline_jsx m h f).report.functions + (outline_jsx m h f).report.abandoned) + (length (outline_jsx m h f).hir.identifiers + (outline_jsx m h f).hir.used_rows)
