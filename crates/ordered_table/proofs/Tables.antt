-- What holds of a table by where a key stands among its entries, and what an insertion leaves.
use Rattle.std.proofs.Common.{◌≡◌, ℕ, ◌+◌, ◌<◌, ◌≤◌, Bool, true, false, length, get_or, set, Some, None, Ok, Err, Option, Result, sym, ◌∙◌, arith}
use Rattle.std.specs.Prelude.{position}
use Rattle.std.proofs.Math.Seq.{take-set-lt}
use Rattle.std.proofs.lemmas.List.{get_or-take, length-take-le, length-set, take_more_set, drop-set-lt}
use Rattle.std.proofs.lemmas.Bool.{lt-ltb, le-ltb}
use Rattle.ordered_table.specs.declared.Entry.{Entry}
use Rattle.ordered_table.specs.declared.Full.{Full}
use Rattle.ordered_table.specs.declared.OrderedTable.{OrderedTable}
use Rattle.ordered_table.specs.Table.{entries_of, room, takes, Insertion}
use Rattle.ordered_table.proofs.Places.{there_at, missing_at}

entries_length : {K V : Type 0} (t : OrderedTable K V) → length (entries_of t) ≡ t.len
entries_length t = length-take-le t.len t.entries.now t.fits

-- an insertion of `v` that answers `r` and leaves `u`: into the key's own entry, past the last one, or not at all
module _ {K V : Type 0} (e : K → K → Bool) (t : OrderedTable K V) (k : K) (v : V) (r : Result (Option V) Full) (u : OrderedTable K V) where
  pub replaced : (i : ℕ) (d f : Entry K V) → position (λ x. e x.key k) (entries_of t) ≡ Some i → r ≡ Ok (Some (get_or t.entries.now i d).value) → u.len ≡ t.len
      → u.entries.now ≡ set t.entries.now i (record { key = (get_or t.entries.now i f).key; value = v })
      → Insertion e t k v r u
  replaced i d f found answer same is =
      let w = there_at e k (entries_of t) i found in
      let h : i < t.len = omega (arith, w.inside, entries_length t) in
      let g = λ (x : Entry K V). get_or-take t.len t.entries.now i x h in
      let fits : takes e t k ≡ true = simp w.listed in
      record {
        answers = answer ∙ simp (fits, w.looked d, g d);
        holds = simp (answer, same, is) (take-set-lt t.len t.entries.now i _ h ∙ sym (w.puts f v ∙ simp (g f)));
        spare = simp (same, is) (drop-set-lt t.len t.entries.now i _ h);
        same_room = simp is (length-set t.entries.now i _);
      }

  pub added : position (λ x. e x.key k) (entries_of t) ≡ None → t.len < room t → r ≡ Ok None → u.len ≡ t.len + 1
      → u.entries.now ≡ set t.entries.now t.len (record { key = k; value = v })
      → Insertion e t k v r u
  added absent l answer more is =
      let w = missing_at e k (entries_of t) absent in
      let spare = lt-ltb (length (entries_of t)) (room t) (omega (arith, entries_length t)) in
      let fits : takes e t k ≡ true = simp (w.listed, spare) in
      let m : t.len < t.len + 1 = omega arith in
      record {
        answers = answer ∙ simp (fits, w.looked);
        holds = simp (answer, more, is) (take_more_set t.entries.now t.len _ l ∙ sym (w.puts v));
        spare = simp (more, is) (drop-set-lt (t.len + 1) t.entries.now t.len _ m);
        same_room = simp is (length-set t.entries.now t.len _);
      }

  pub refused : position (λ x. e x.key k) (entries_of t) ≡ None → room t ≤ t.len → r ≡ Err (record {}) → u.len ≡ t.len → u.entries.now ≡ t.entries.now → Insertion e t k v r u
  refused absent l answer same is =
      let w = missing_at e k (entries_of t) absent in
      let full = le-ltb (length (entries_of t)) (room t) (omega (arith, entries_length t)) in
      let fits : takes e t k ≡ false = simp (w.listed, full) in
      record { answers = answer ∙ simp fits; holds = simp (answer, same, is); spare = simp is; same_room = simp is }
