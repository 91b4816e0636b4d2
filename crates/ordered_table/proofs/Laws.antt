-- The laws of the table: what is found after insertions, and in which order the keys stand.
use Rattle.std.proofs.Common.{◌≡◌, Bool, true, false, cond, List, [], ◌∷◌, ◌++◌, length, Some, Option, sym, refl, ap, ◌∙◌, inl, inr}
use Rattle.std.proofs.lemmas.List.{append-nil, append_assoc, map_push}
use Rattle.std.proofs.lemmas.Bool.{both_ways, cases_Bool, cases_lt, or_parts}
use Rattle.rules.specs.Lists.{any}
use Rattle.ordered_table.specs.declared.Entry.{Entry}
use Rattle.ordered_table.specs.Entries.{put, look, keys, among, put_all, firsts, given_last, Distinct, StaysDistinct, Ordered}
use Rattle.ordered_table.proofs.Places.{place, there, missing}

-- a test that fails on each of these and on one more fails on all
any_push : {A : Type 0} (p : A → Bool) (xs : List A) (x : A) → any p xs ≡ false → p x ≡ false → any p (xs ++ (x ∷ [])) ≡ false
any_push p [] x h n = simp n
any_push p (y ∷ ys) x h n = let q = or_parts (p y) (any p ys) h in simp (q.0, any_push p ys x q.1 n)

distinct_push : {K : Type 0} (e : K → K → Bool) (ks : List K) (k : K) → Distinct e ks → among e ks k ≡ false → Distinct e (ks ++ (k ∷ []))
distinct_push e [] k h n = (refl, tt)
distinct_push e (q ∷ ks) k h n =
    let m = or_parts (e q k) (among e ks k) n in
    (any_push (e q) ks k h.0 m.0, distinct_push e ks k h.1 m.1)

module _ {K V : Type 0} (e : K → K → Bool) where
  -- a key that is there adds none, a new one goes to the end
  pub keys_put : (xs : List (Entry K V)) (k : K) (v : V) → keys (put e xs k v) ≡ cond (among e (keys xs) k) (keys xs) (keys xs ++ (k ∷ []))
  keys_put xs k v = elim (cases_lt (place e k xs) (length xs)) [
    | inl h ↦ let w = there e k xs h in simp w.listed (w.same_keys v)
    | inr h ↦ let w = missing e k xs h in simp w.listed (ap keys (w.puts v) ∙ map_push (λ x. x.key) xs (record { key = k; value = v }))
  ]

  pub stays_distinct : StaysDistinct K V e
  stays_distinct xs k v h = elim (cases_Bool (among e (keys xs) k)) [
    | inl t ↦ simp (keys_put xs k v, t) h
    | inr f ↦ simp (keys_put xs k v, f) (distinct_push e (keys xs) k h f)
  ]

  run_order : (ps xs : List (Entry K V)) → keys (put_all e xs ps) ≡ keys xs ++ firsts e (keys xs) (keys ps)
  run_order [] xs = sym (append-nil (keys xs))
  run_order (p ∷ ps) xs =
      let again = run_order ps (put e xs p.key p.value) in
      elim (cases_Bool (among e (keys xs) p.key)) [
        | inl t ↦ again ∙ simp (keys_put xs p.key p.value, t)
        | inr f ↦ again ∙ simp (keys_put xs p.key p.value, f) (append_assoc (keys xs) (p.key ∷ []) _)
      ]

  run_distinct : (ps xs : List (Entry K V)) → Distinct e (keys xs) → Distinct e (keys (put_all e xs ps))
  run_distinct [] xs h = h
  run_distinct (p ∷ ps) xs h = run_distinct ps (put e xs p.key p.value) (stays_distinct xs p.key p.value h)

module _ {K V : Type 0} (e : K → K → Bool) (same : (a : K) → e a a ≡ true) (flip : (a b : K) → e a b ≡ e b a) (chain : (a b c : K) → e a b ≡ true → e b c ≡ true → e a c ≡ true) where
  -- the three tests that one entry meets
  found_step : (p q r : Bool) (x : Entry K V) (xs : List (Entry K V)) (k : K) (v : V) (z : K) → e x.key k ≡ p → e x.key z ≡ q → e k z ≡ r → look e (put e xs k v) z ≡ cond r (Some v) (look e xs z) → look e (cond p (record { key = x.key; value = v } ∷ xs) (x ∷ put e xs k v)) z ≡ cond r (Some v) (cond q (Some x.value) (look e xs z))
  found_step true true true x xs k v z a b c h = simp b
  found_step true true false x xs k v z a b c h = absurd (both_ways _ c (chain k x.key z (flip k x.key ∙ a) b))
  found_step true false true x xs k v z a b c h = absurd (both_ways _ b (chain x.key k z a c))
  found_step true false false x xs k v z a b c h = simp b
  found_step false true true x xs k v z a b c h = absurd (both_ways _ a (chain x.key z k b (flip z k ∙ c)))
  found_step false true false x xs k v z a b c h = simp b
  found_step false false true x xs k v z a b c h = simp b h
  found_step false false false x xs k v z a b c h = simp b h

  found : (xs : List (Entry K V)) (k : K) (v : V) (q : K) → look e (put e xs k v) q ≡ cond (e k q) (Some v) (look e xs q)
  found [] k v q = refl
  found (x ∷ xs) k v q = found_step (e x.key k) (e x.key q) (e k q) x xs k v q refl refl refl (found xs k v q)

  run_values : (ps xs : List (Entry K V)) (q : K) → look e (put_all e xs ps) q ≡ given_last e (look e xs q) ps q
  run_values [] xs q = refl
  run_values (p ∷ ps) xs q = run_values ps (put e xs p.key p.value) q ∙ ap (λ (o : Option V). given_last e o ps q) (found xs p.key p.value q)

  pub ordered : Ordered K V e
  ordered = record {
    finds = λ xs k v. (found xs k v k ∙ simp (same k), λ q n. found xs k v q ∙ simp n);
    stays = stays_distinct e;
    runs = λ ps. record { order = run_order e ps []; values = run_values ps []; distinct = run_distinct e ps [] tt };
  }
