-- What made names and tags are.
use Rattle.std.specs.Prelude.{◌≡◌, ℕ, zero, suc, ◌+◌, ◌<◌, ◌≤◌, true, false, List, ◌++◌, length}
use Rattle.rules.specs.Views.{Bytes, Hir}
use Rattle.rules.specs.Names.{borne, numeral, Made, generate_name, tag_name, names_of, known, next_tag}
use Rattle.rules.specs.Eliminations.{Meaning}
use Rattle.rules.specs.Outline.{outline_jsx}
use Rattle.rules.specs.Drawn.{FewBorne}

-- The order of tries: the old name, then the old name with the counter, which rises at each try.
abbrev pub tried : Bytes → ℕ → ℕ → Bytes
tried old c zero = old
tried old c (suc k) = old ++ numeral (c + k)

-- the made name is not seen in its group, and every try before it is; the counter has risen by the tries
pub record FirstUnseen (seen : List Bytes) (old : Bytes) (c : ℕ) (made : Made) : Type 0 where
  pub tries : ℕ
  pub name : made.name ≡ tried old c tries
  pub counter : made.counter ≡ c + tries
  pub unseen : borne made.name seen ≡ false
  pub earlier : (k : ℕ) → k < tries → borne (tried old c k) seen ≡ true
  pub few : tries ≤ suc (length seen)

abbrev pub MadeNamesAreNew : Type 0
MadeNamesAreNew = (seen : List Bytes) (old : Bytes) (c : ℕ) → FirstUnseen seen old c (generate_name seen old c)

-- how many tries are enough
abbrev pub name_tries : ℕ → ℕ
name_tries seen = suc seen

abbrev pub tag_tries : ℕ → ℕ → ℕ
tag_tries identifiers rows = suc (identifiers + rows)

-- The next tag's number is above the mark, so above every number taken before; no identifier and no LoadGlobal or StoreGlobal row bears
-- the tag, and each number that was passed over is one whose tag is borne.
pub record FirstFree (h : Hir) (n : ℕ) : Type 0 where
  pub above : h.mark < n
  pub identifiers : borne (tag_name n) (names_of h.identifiers) ≡ false
  pub rows : h.bears (tag_name n) ≡ false
  pub earlier : (k : ℕ) → h.mark < k → k < n → known h (tag_name k) ≡ true

-- where rows bear no more names than there are rows, which every outline keeps so
abbrev pub TagsAreFree : Type 0
TagsAreFree = ((h : Hir) → FewBorne h → FirstFree h (next_tag h)) × ((m : Meaning) (h : Hir) (f : ℕ) → FewBorne h → FewBorne (outline_jsx m h f).hir)
