-- What the places of an element and of a Destructure are asked for.
use Rattle.std.specs.Prelude.{◌≡◌, ℕ, ◌<◌, ◌≤◌, true, List, length, is_some, Some, None, Option}
use Rattle.hir.specs.declared.rows.Place.{Place}
use Rattle.refusals.specs.Form.{role_at}

-- In an element a place of this role may stand after one of the role before it, or first: a tag only first, a child only with a child list,
-- and after a child only children.
pub record MayFollow (before : Option ℕ) (role detail : ℕ) : Type 0 where
  pub low : 1 ≤ role
  pub high : role ≤ 4
  pub tag_first : role ≡ 1 → before ≡ None
  pub child_list : role ≡ 4 → detail ≡ 1
  pub children_last : before ≡ Some 4 → role ≡ 4

-- one place is read
pub record ReadsOne (ps : List Place) : Type 0 where
  pub read : (k : ℕ) × (k < length ps) × (role_at ps k ≤ 4)
  pub alone : (j k : ℕ) → j < length ps → k < length ps → role_at ps j ≤ 4 → role_at ps k ≤ 4 → j ≡ k

-- a place that is written has a key
abbrev pub Keyed : Place → Type 0
Keyed p = 4 < p.role → is_some p.name ≡ true
