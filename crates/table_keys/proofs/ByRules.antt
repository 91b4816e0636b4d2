-- The table over identifiers, line by line, and the names of a table over names.
use Rattle.std.proofs.Common.{◌≡◌, ℕ, Bool, true, false, cond, ◌||◌, eqb, List, [], ◌∷◌, map, Some, unwrap_or, sym, refl, ap, inl, inr, arith}
use Rattle.std.specs.Option.{option_map}
use Rattle.std.proofs.lemmas.Bool.{both_ways, cases_Bool, eqb-true}
use Rattle.rules.specs.Views.{Bytes}
use Rattle.rules.specs.Names.{same_bytes, borne}
use Rattle.rules.specs.Props.{Bound, put, latest}
use Rattle.rules.proofs.Naming.{same_true}
use Rattle.hir.specs.declared.rows.IdentifierId.{IdentifierId}
use Rattle.hir.specs.declared.rows.Name.{Name}
use Rattle.hir.specs.Keys.{same_number, same_spelling}
use Rattle.hir.specs.View.{spelt}
use Rattle.ordered_table.specs.declared.Entry.{Entry}
use Rattle.ordered_table.specs.Entries as entries
use Rattle.ordered_table.proofs.SameBytes.{same_flip}
use Rattle.table_keys.specs.Laws.{line, BindsByRules, SeenByRules}

eqb_flip : (a b : ℕ) → eqb a b ≡ eqb b a
eqb_flip a b = grind arith

module _ {V : Type 0} (name : V → Bytes) (fresh : V → ℕ) where
  -- one entry, by the test of the table and by that of the rules
  put_step : (p q : Bool) (x : Entry IdentifierId V) (xs : List (Entry IdentifierId V)) (k : IdentifierId) (v : V)
      → eqb x.key.0 k.0 ≡ p → eqb x.key.0 k.0 ≡ q
      → map (line name fresh) (entries.put same_number xs k v) ≡ put (line name fresh (record { key = k; value = v })) (map (line name fresh) xs)
      → map (line name fresh) (cond p (record { key = x.key; value = v } ∷ xs) (x ∷ entries.put same_number xs k v))
      ≡ elim q [ true ↦ line name fresh (record { key = k; value = v }) ∷ map (line name fresh) xs | false ↦ line name fresh x ∷ put (line name fresh (record { key = k; value = v })) (map (line name fresh) xs) ]
  put_step true true x xs k v a b again = ap (λ (n : ℕ). record { old = n; key = name v; fresh = fresh v } ∷ map (line name fresh) xs) (eqb-true x.key.0 k.0 a)
  put_step true false x xs k v a b again = absurd (both_ways _ b a)
  put_step false true x xs k v a b again = absurd (both_ways _ a b)
  put_step false false x xs k v a b again = ap (λ (bs : List Bound). line name fresh x ∷ bs) again

  lines_put : (xs : List (Entry IdentifierId V)) (k : IdentifierId) (v : V)
      → map (line name fresh) (entries.put same_number xs k v) ≡ put (line name fresh (record { key = k; value = v })) (map (line name fresh) xs)
  lines_put [] k v = refl
  lines_put (x ∷ xs) k v = put_step (eqb x.key.0 k.0) (eqb k.0 x.key.0) x xs k v refl (eqb_flip x.key.0 k.0) (lines_put xs k v)

  lines_look : (xs : List (Entry IdentifierId V)) (k : IdentifierId)
      → latest (map (line name fresh) xs) k.0 ≡ unwrap_or (option_map fresh (entries.look same_number xs k)) k.0
  lines_look [] k = refl
  lines_look (x ∷ xs) k =
      let again = lines_look xs k in
      elim (eqb x.key.0 k.0) as (λ b. elim b [ true ↦ fresh x.value | false ↦ latest (map (line name fresh) xs) k.0 ] ≡ unwrap_or (option_map fresh (cond b (Some x.value) (entries.look same_number xs k))) k.0) [ true ↦ refl | false ↦ again ]

pub binds_by_rules : (V : Type 0) → BindsByRules V
binds_by_rules V = record { puts = lines_put; looks = lines_look }

or_twice : (a b : Bool) → (a || b) ≡ (a || (a || b))
or_twice a b = grind arith

or_swap : (a b c : Bool) → (a || (b || c)) ≡ (b || (a || c))
or_swap a b c = grind arith

module _ (text : Bytes) where
  -- whether a name is among the keys is told by its bytes
  pub among_bytes : (ks : List Name) (n : Name) → entries.among (same_spelling text) ks n ≡ borne (spelt text n) (map (spelt text) ks)
  among_bytes [] n = refl
  among_bytes (k ∷ ks) n = rw (same_flip (spelt text k) (spelt text n), among_bytes ks n)

  module _ {V : Type 0} where
    names_put : (xs : List (Entry Name V)) (k : Name) (v : V) (n : Bytes)
        → borne n (map (spelt text) (entries.keys (entries.put (same_spelling text) xs k v))) ≡ (same_bytes n (spelt text k) || borne n (map (spelt text) (entries.keys xs)))
    names_put [] k v n = refl
    names_put (x ∷ xs) k v n = elim (cases_Bool (same_spelling text x.key k)) [
      | inl t ↦ simp t (simp (sym (same_true (spelt text x.key) (spelt text k) t)) (or_twice (same_bytes n (spelt text x.key)) (borne n (map (spelt text) (entries.keys xs)))))
      | inr f ↦ simp (f, names_put xs k v n) (or_swap (same_bytes n (spelt text x.key)) (same_bytes n (spelt text k)) (borne n (map (spelt text) (entries.keys xs))))
    ]

pub seen_by_rules : (V : Type 0) (text : Bytes) → SeenByRules V text
seen_by_rules V text = record { puts = names_put text }
