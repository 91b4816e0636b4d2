-- What a table holds, and what an insertion does to it.
use Rattle.std.specs.Prelude.{◌≡◌, ℕ, Bool, cond, ◌||◌, List, length, take, drop, is_ok, Ok, Err, Option, Result, nat_lt}
use Rattle.ordered_table.specs.declared.Entry.{Entry}
use Rattle.ordered_table.specs.declared.Full.{Full}
use Rattle.ordered_table.specs.declared.OrderedTable.{OrderedTable}
use Rattle.ordered_table.specs.Entries.{put, look, keys, among}

-- the entries of a table, in order
abbrev pub entries_of : {K V : Type 0} → OrderedTable K V → List (Entry K V)
entries_of t = take t.len t.entries.now

-- how many keys it can have
abbrev pub room : {K V : Type 0} → OrderedTable K V → ℕ
room t = length t.entries.now

-- a key can be inserted if it is there already or an entry is spare
abbrev pub takes : {K V : Type 0} → (K → K → Bool) → OrderedTable K V → K → Bool
takes e t k = among e (keys (entries_of t)) k || nat_lt (length (entries_of t)) (room t)

-- An insertion of `k` with `v` into `t` that answers `r` and leaves `u`.
pub record Insertion {K V : Type 0} (e : K → K → Bool) (t : OrderedTable K V) (k : K) (v : V) (r : Result (Option V) Full) (u : OrderedTable K V) : Type 0 where
  -- it is refused only if the key is new and the table is full; else the answer is the value that the key had
  pub answers : r ≡ cond (takes e t k) (Ok (look e (entries_of t) k)) (Err (record {}))
  -- an accepted key takes the value, a refused one stores nothing
  pub holds : entries_of u ≡ cond (is_ok r) (put e (entries_of t) k v) (entries_of t)
  -- entries that are spare at the end keep what they held
  pub spare : drop u.len u.entries.now ≡ drop u.len t.entries.now
  pub same_room : room u ≡ room t
