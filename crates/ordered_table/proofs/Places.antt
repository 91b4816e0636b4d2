-- What holds of the entries by where a key stands among them.
use Rattle.std.proofs.Common.{◌≡◌, ℕ, suc, ◌<◌, ◌≤◌, Bool, true, false, cond, List, [], ◌∷◌, ◌++◌, length, get_or, set, Some, None, refl, ap, sym, ◌∙◌, subst, ltb, inl, inr, arith}
use Rattle.std.specs.Prelude.{is_some, position}
use Rattle.std.specs.List.{position_or_len}
use Rattle.std.proofs.lemmas.Bool.{cases_Bool, cases_lt, lt-ltb, le-ltb}
use Rattle.std.proofs.lemmas.List.Recursion.{is_position_or_len}
use Rattle.ordered_table.specs.declared.Entry.{Entry}
use Rattle.ordered_table.specs.Entries.{put, look, keys, among}

-- what holds if the key is there, at `i`
pub record There {K V : Type 0} (e : K → K → Bool) (k : K) (xs : List (Entry K V)) (i : ℕ) : Type 0 where
  pub inside : i < length xs
  pub listed : among e (keys xs) k ≡ true
  pub looked : (d : Entry K V) → look e xs k ≡ Some (get_or xs i d).value
  pub puts : (d : Entry K V) (v : V) → put e xs k v ≡ set xs i (record { key = (get_or xs i d).key; value = v })
  pub same_keys : (v : V) → keys (put e xs k v) ≡ keys xs

-- and if it is not
pub record Absent {K V : Type 0} (e : K → K → Bool) (k : K) (xs : List (Entry K V)) : Type 0 where
  pub listed : among e (keys xs) k ≡ false
  pub looked : look e xs k ≡ None
  pub puts : (v : V) → put e xs k v ≡ xs ++ (record { key = k; value = v } ∷ [])

module _ {K V : Type 0} (e : K → K → Bool) (k : K) where
  -- where the key stands: the length if it is not there
  abbrev pub place : List (Entry K V) → ℕ
  place [] = 0
  place (x ∷ xs) = cond (e x.key k) 0 (suc (place xs))

  pub there : (xs : List (Entry K V)) → place xs < length xs → There e k xs (place xs)
  there [] h = absurd (omega arith)
  there (x ∷ xs) h = elim (cases_Bool (e x.key k)) [
    | inl t ↦ record { inside = h; listed = simp t; looked = λ d. simp t; puts = λ d v. simp t; same_keys = λ v. simp t }
    | inr f ↦
        let p : place (x ∷ xs) ≡ suc (place xs) = simp f in
        let again = there xs (omega (arith, p)) in
        record {
          inside = h;
          listed = simp f again.listed;
          looked = λ d. simp f (again.looked d);
          puts = λ d v. simp f (ap (λ ys. x ∷ ys) (again.puts d v));
          same_keys = λ v. simp f (ap (λ ks. x.key ∷ ks) (again.same_keys v));
        }
  ]

  pub missing : (xs : List (Entry K V)) → length xs ≤ place xs → Absent e k xs
  missing [] h = record { listed = refl; looked = refl; puts = λ v. refl }
  missing (x ∷ xs) h = elim (cases_Bool (e x.key k)) [
    | inl t ↦ let p : place (x ∷ xs) ≡ 0 = simp t in absurd (omega (arith, p))
    | inr f ↦
        let p : place (x ∷ xs) ≡ suc (place xs) = simp f in
        let again = missing xs (omega (arith, p)) in
        record {
          listed = simp f again.listed;
          looked = simp f again.looked;
          puts = λ v. simp f (ap (λ ys. x ∷ ys) (again.puts v));
        }
  ]

  -- the same, by what a look for the key answers
  same_place : (xs : List (Entry K V)) → place xs ≡ position_or_len (λ x. e x.key k) xs
  same_place xs = is_position_or_len place (λ (x : Entry K V). e x.key k) refl (λ x ys. ap (cond (e x.key k) 0) (omega arith)) xs

  answer : (xs : List (Entry K V)) → position (λ x. e x.key k) xs ≡ cond (ltb (place xs) (length xs)) (Some (place xs)) None
  answer xs = ap (λ n. cond (ltb n (length xs)) (Some n) None) (sym (same_place xs))

  found : (xs : List (Entry K V)) → place xs < length xs → position (λ x. e x.key k) xs ≡ Some (place xs)
  found xs h = answer xs ∙ simp (lt-ltb (place xs) (length xs) h)

  nothing : (xs : List (Entry K V)) → length xs ≤ place xs → position (λ x. e x.key k) xs ≡ None
  nothing xs h = answer xs ∙ simp (le-ltb (place xs) (length xs) h)

  pub there_at : (xs : List (Entry K V)) (i : ℕ) → position (λ x. e x.key k) xs ≡ Some i → There e k xs i
  there_at xs i h = elim (cases_lt (place xs) (length xs)) [
    | inl l ↦ let s = found xs l in let same : place xs ≡ i = cc in subst (There e k xs) same (there xs l)
    | inr l ↦ let s = nothing xs l in absurd cc
  ]

  pub missing_at : (xs : List (Entry K V)) → position (λ x. e x.key k) xs ≡ None → Absent e k xs
  missing_at xs h = elim (cases_lt (place xs) (length xs)) [
    | inl l ↦ let s = found xs l in absurd cc
    | inr l ↦ missing xs l
  ]

  pub among_keys : (xs : List (Entry K V)) → among e (keys xs) k ≡ is_some (position (λ x. e x.key k) xs)
  among_keys xs = elim (cases_lt (place xs) (length xs)) [
    | inl l ↦ (there xs l).listed ∙ sym (ap is_some (found xs l))
    | inr l ↦ (missing xs l).listed ∙ sym (ap is_some (nothing xs l))
  ]
