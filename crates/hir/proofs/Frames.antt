-- The frame of each kind of write, of one write after another, and what it gives.
use Rattle.std.proofs.Common.{◌≡◌, ℕ, ◌+◌, ◌<◌, ◌≤◌, min, List, [], ◌∷◌, ◌++◌, map, length, get_or, take, drop, set, sym, refl, ap, ◌∙◌, arith, length-append, length-set, take-append-drop, length-take, length-take-le, take-take, take_at, drop-set-lt}
use lib.Seq.{paste, length-paste, take-set-le, take-set-lt, drop-paste, take-append-le}
use Rattle.std.proofs.lemmas.List.{take-map, map-set, set-get_or, get_or-map, get_or-take, map-id}
use Rattle.hir.specs.declared.rows.Store.{Store}
use Rattle.hir.specs.declared.rows.Identifier.{Identifier}
use Rattle.hir.specs.declared.rows.Place.{Place}
use Rattle.hir.specs.declared.rows.Instruction.{Instruction}
use Rattle.hir.specs.declared.rows.BasicBlock.{BasicBlock}
use Rattle.hir.specs.declared.rows.HirFunction.{HirFunction}
use Rattle.hir.specs.Tables.{Tables, Held, hold_numbers, with_identifier, with_instruction, with_block, with_function, with_text, with_places, with_numbers, with_tag, over_identifier, over_block}
use Rattle.hir.specs.View.{rows, null_identifier, null_block}
use Rattle.hir.specs.Frame.{Onward, AllOnward, Kept, onwards, whole, declaration_of, without_list, nothing_of}
use Rattle.hir.proofs.Runs.{drop_less}
use Rattle.hir.proofs.Same.{Prefix, Stays}

take_pasted : {A : Type 0} (d : List A) (n : ℕ) (s : List A) (c : ℕ) → n ≤ length d → take n (paste d n s c) ≡ take n d
take_pasted d n s c h =
    let e : length (take n d) ≡ n = length-take-le n d h in
    take-append-le n (take n d ++ take c s) (drop (n + c) d) (simp length-append (omega arith)) ∙ take_at (take n d) (take c s) n e

module _ {A B : Type 0} (part : A → B) where
  pub onward_same : (m : ℕ) (xs : List A) → Onward part m m xs xs
  onward_same m xs = record { more = omega arith; long = refl; spare = refl; kept = refl }

  pub onward_then : (m n o : ℕ) (xs ys zs : List A) → Onward part m n xs ys → Onward part n o ys zs → Onward part m o xs zs
  onward_then m n o xs ys zs a b = record {
    more = omega (arith, a.more, b.more);
    long = b.long ∙ a.long;
    spare = b.spare ∙ drop_less n o ys xs b.more a.spare;
    kept = ap (map part) (sym (take-take m n zs a.more)) ∙ sym (take-map part m (take n zs)) ∙ ap (take m) b.kept ∙ take-map part m (take n ys) ∙ ap (map part) (take-take m n ys a.more) ∙ a.kept;
  }

  -- a row more, and several
  pub onward_set : (m : ℕ) (xs : List A) (x : A) → Onward part m (m + 1) xs (set xs m x)
  onward_set m xs x = record { more = omega arith; long = length-set xs m x; spare = drop-set-lt (m + 1) xs m x (omega arith); kept = ap (map part) (take-set-le m xs m x (omega arith)) }

  pub onward_paste : (m : ℕ) (xs ys : List A) → m + length ys ≤ length xs → Onward part m (m + length ys) xs (paste xs m ys (length ys))
  onward_paste m xs ys h = record {
    more = omega arith;
    long = length-paste xs m ys (length ys) h (omega arith);
    spare = drop-paste xs m ys (length ys) (omega arith) (omega arith);
    kept = ap (map part) (take_pasted xs m ys (length ys) (omega arith));
  }

  -- a used row written over, of which the part is kept
  pub onward_over : (m n : ℕ) (xs : List A) (x d : A) → n < m → m ≤ length xs → part x ≡ part (get_or xs n d) → Onward part m m xs (set xs n x)
  onward_over m n xs x d h l e = record {
    more = omega arith;
    long = length-set xs n x;
    spare = drop-set-lt m xs n x h;
    kept =
        let size : length (take m xs) ≡ m = length-take-le m xs l in
        ap (map part) (take-set-lt m xs n x h) ∙ map-set part (take m xs) n x
        ∙ ap (set (map part (take m xs)) n) (e ∙ ap part (sym (get_or-take m xs n d h)) ∙ sym (get_or-map part (take m xs) n d (part d) (omega arith)))
        ∙ set-get_or (map part (take m xs)) n (part d);
  }

-- several numbers written over: of those nothing is kept
map_nothing : (xs ys : List ℕ) → length xs ≡ length ys → map nothing_of xs ≡ map nothing_of ys
map_nothing [] [] e = refl
map_nothing [] (y ∷ ys) e = absurd (omega arith)
map_nothing (x ∷ xs) [] e = absurd (omega arith)
map_nothing (x ∷ xs) (y ∷ ys) e = ap (λ v. 0 ∷ v) (map_nothing xs ys (omega arith))

pub onward_rewritten : (m f : ℕ) (xs ns : List ℕ) → f + length ns ≤ m → m ≤ length xs → Onward nothing_of m m xs (paste xs f ns (length ns))
onward_rewritten m f xs ns h l =
    let z : length (paste xs f ns (length ns)) ≡ length xs = length-paste xs f ns (length ns) (omega arith) (omega arith) in
    record {
      more = omega arith;
      long = z;
      spare = drop_less (f + length ns) m (paste xs f ns (length ns)) xs h (drop-paste xs f ns (length ns) (omega arith) (omega arith));
      kept = map_nothing (take m (paste xs f ns (length ns))) (take m xs) (length-take m (paste xs f ns (length ns)) ∙ sym (length-take m xs ∙ ap (min m) (sym z)));
    }

-- The frame of the whole.

module _ (t : Tables) where
  abbrev same : AllOnward t t
  same = record {
    text = onward_same (whole {A = ℕ}) t.counts.text t.text;
    identifiers = onward_same declaration_of t.counts.identifiers t.identifiers;
    places = onward_same (whole {A = Place}) t.counts.places t.places;
    instructions = onward_same (whole {A = Instruction}) t.counts.instructions t.instructions;
    numbers = onward_same nothing_of t.counts.numbers t.numbers;
    blocks = onward_same without_list t.counts.blocks t.blocks;
    functions = onward_same (whole {A = HirFunction}) t.counts.functions t.functions;
  }

  pub kept_same : Kept t t
  kept_same = onwards same

  pub kept_identifier : (x : Identifier) → Kept t (with_identifier t x)
  kept_identifier x = onwards (record { text = same.text; identifiers = onward_set declaration_of t.counts.identifiers t.identifiers x; places = same.places; instructions = same.instructions; numbers = same.numbers; blocks = same.blocks; functions = same.functions })

  pub kept_instruction : (x : Instruction) → Kept t (with_instruction t x)
  kept_instruction x = onwards (record { text = same.text; identifiers = same.identifiers; places = same.places; instructions = onward_set (whole {A = Instruction}) t.counts.instructions t.instructions x; numbers = same.numbers; blocks = same.blocks; functions = same.functions })

  pub kept_block : (x : BasicBlock) → Kept t (with_block t x)
  kept_block x = onwards (record { text = same.text; identifiers = same.identifiers; places = same.places; instructions = same.instructions; numbers = same.numbers; blocks = onward_set without_list t.counts.blocks t.blocks x; functions = same.functions })

  pub kept_function : (x : HirFunction) → Kept t (with_function t x)
  kept_function x = onwards (record { text = same.text; identifiers = same.identifiers; places = same.places; instructions = same.instructions; numbers = same.numbers; blocks = same.blocks; functions = onward_set (whole {A = HirFunction}) t.counts.functions t.functions x })

  pub kept_text : (xs : List ℕ) → t.counts.text + length xs ≤ length t.text → Kept t (with_text t xs)
  kept_text xs h = onwards (record { text = onward_paste (whole {A = ℕ}) t.counts.text t.text xs h; identifiers = same.identifiers; places = same.places; instructions = same.instructions; numbers = same.numbers; blocks = same.blocks; functions = same.functions })

  pub kept_places : (xs : List Place) → t.counts.places + length xs ≤ length t.places → Kept t (with_places t xs)
  kept_places xs h = onwards (record { text = same.text; identifiers = same.identifiers; places = onward_paste (whole {A = Place}) t.counts.places t.places xs h; instructions = same.instructions; numbers = same.numbers; blocks = same.blocks; functions = same.functions })

  pub kept_numbers : (xs : List ℕ) → t.counts.numbers + length xs ≤ length t.numbers → Kept t (with_numbers t xs)
  kept_numbers xs h = onwards (record { text = same.text; identifiers = same.identifiers; places = same.places; instructions = same.instructions; numbers = onward_paste nothing_of t.counts.numbers t.numbers xs h; blocks = same.blocks; functions = same.functions })

  pub kept_tag : (n : ℕ) → Kept t (with_tag t n)
  kept_tag n = onwards (record { text = same.text; identifiers = same.identifiers; places = same.places; instructions = same.instructions; numbers = same.numbers; blocks = same.blocks; functions = same.functions })

  pub kept_over_identifier : (n : ℕ) (x : Identifier) → n < t.counts.identifiers → t.counts.identifiers ≤ length t.identifiers → x.declaration ≡ (get_or t.identifiers n null_identifier).declaration → Kept t (over_identifier t n x)
  kept_over_identifier n x h l e = onwards (record { text = same.text; identifiers = onward_over declaration_of t.counts.identifiers n t.identifiers x null_identifier h l e; places = same.places; instructions = same.instructions; numbers = same.numbers; blocks = same.blocks; functions = same.functions })

  pub kept_over_block : (n : ℕ) (x : BasicBlock) → n < t.counts.blocks → t.counts.blocks ≤ length t.blocks → without_list x ≡ without_list (get_or t.blocks n null_block) → Kept t (over_block t n x)
  kept_over_block n x h l e = onwards (record { text = same.text; identifiers = same.identifiers; places = same.places; instructions = same.instructions; numbers = same.numbers; blocks = onward_over without_list t.counts.blocks n t.blocks x null_block h l e; functions = same.functions })

  pub kept_rewritten : (f : ℕ) (xs : List ℕ) → f + length xs ≤ t.counts.numbers → t.counts.numbers ≤ length t.numbers → Kept t (hold_numbers t t.counts (paste t.numbers f xs (length xs)))
  kept_rewritten f xs h l = onwards (record { text = same.text; identifiers = same.identifiers; places = same.places; instructions = same.instructions; numbers = onward_rewritten t.counts.numbers f t.numbers xs h l; blocks = same.blocks; functions = same.functions })

pub kept_then : {t u v : Tables} → Kept t u → Kept u v → Kept t v
kept_then {t} {u} {v} (onwards a) (onwards b) = onwards (record {
  text = onward_then (whole {A = ℕ}) t.counts.text u.counts.text v.counts.text t.text u.text v.text a.text b.text;
  identifiers = onward_then declaration_of t.counts.identifiers u.counts.identifiers v.counts.identifiers t.identifiers u.identifiers v.identifiers a.identifiers b.identifiers;
  places = onward_then (whole {A = Place}) t.counts.places u.counts.places v.counts.places t.places u.places v.places a.places b.places;
  instructions = onward_then (whole {A = Instruction}) t.counts.instructions u.counts.instructions v.counts.instructions t.instructions u.instructions v.instructions a.instructions b.instructions;
  numbers = onward_then nothing_of t.counts.numbers u.counts.numbers v.counts.numbers t.numbers u.numbers v.numbers a.numbers b.numbers;
  blocks = onward_then without_list t.counts.blocks u.counts.blocks v.counts.blocks t.blocks u.blocks v.blocks a.blocks b.blocks;
  functions = onward_then (whole {A = HirFunction}) t.counts.functions u.counts.functions v.counts.functions t.functions u.functions v.functions a.functions b.functions;
})

pub held_then : {s t u : Store} → Held s t → Held t u → Held s u
held_then a b = record { text = a.text ∙ b.text; identifiers = a.identifiers ∙ b.identifiers; places = a.places ∙ b.places; instructions = a.instructions ∙ b.instructions; numbers = a.numbers ∙ b.numbers; blocks = a.blocks ∙ b.blocks; functions = a.functions ∙ b.functions; text_length = a.text_length ∙ b.text_length; identifiers_length = a.identifiers_length ∙ b.identifiers_length; places_length = a.places_length ∙ b.places_length; instructions_length = a.instructions_length ∙ b.instructions_length; numbers_length = a.numbers_length ∙ b.numbers_length; blocks_length = a.blocks_length ∙ b.blocks_length; functions_length = a.functions_length ∙ b.functions_length }

-- what was used and is kept whole begins what is used now
onward_prefix : {A : Type 0} (m n : ℕ) (xs ys : List A) → Onward (whole {A = A}) m n xs ys → Prefix (take m xs) (take n ys)
onward_prefix m n xs ys o =
    (drop m (take n ys), sym (take-append-drop m (take n ys)) ∙ ap (λ v. v ++ drop m (take n ys)) (take-take m n ys o.more ∙ sym (map-id (take m ys)) ∙ o.kept ∙ map-id (take m xs)))

pub kept_stays : (t u : Tables) → Kept t u → Stays (rows t) (rows u)
kept_stays t u (onwards o) = record {
  text = onward_prefix t.counts.text u.counts.text t.text u.text o.text;
  places = onward_prefix t.counts.places u.counts.places t.places u.places o.places;
  instructions = onward_prefix t.counts.instructions u.counts.instructions t.instructions u.instructions o.instructions;
}
