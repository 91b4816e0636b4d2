-- The places of an element by the place before, and the one place of a Destructure that is read by how many there are.
use Rattle.std.proofs.Common.{◌≡◌, ℕ, zero, suc, Bool, inl, inr, ◌+◌, ◌<◌, ◌≤◌, List, [], ◌∷◌, length, None, Some, Option, ◌∙◌, sym, ap, arith, refl}
use Rattle.std.specs.Prelude.{count_by, cond, nat_le, nat_eq, MatchBool}
use Rattle.std.proofs.lemmas.List.Recursion.{is_count_by}
use Rattle.std.proofs.lemmas.Bool.Decides.{leb_tells, eqb_tells}
use native.Mathlib.Numerals.{unary_clauses}
use Rattle.hir.specs.declared.rows.Place.{Place}
use Rattle.refusals.specs.Form.{role_at, RoleFormed}
use Rattle.store_form.specs.Parts.{MayFollow, ReadsOne}

-- the role of the place before this position
abbrev pub role_before : List Place → ℕ → Option ℕ
role_before ps zero = None
role_before ps (suc k) = Some (role_at ps k)

pub formed : (detail : ℕ) (ps : List Place) (k : ℕ) → MayFollow (role_before ps k) (role_at ps k) detail → RoleFormed detail ps k
formed detail ps zero h = record { low = h.low; high = h.high; tag_first = λ _. refl; child_list = h.child_list; children_last = λ l. absurd (omega arith) }
formed detail ps (suc k) h = record { low = h.low; high = h.high; tag_first = λ e. absurd (let g = h.tag_first e in cc); child_list = h.child_list; children_last = λ _ e. h.children_last (ap Some (simp unary_clauses at e)) }

pub follows : (detail : ℕ) (ps : List Place) (k : ℕ) → RoleFormed detail ps k → MayFollow (role_before ps k) (role_at ps k) detail
follows detail ps zero h = record { low = h.low; high = h.high; tag_first = λ _. refl; child_list = h.child_list; children_last = λ e. absurd cc }
follows detail ps (suc k) h = record { low = h.low; high = h.high; tag_first = λ e. let g = h.tag_first e in absurd (omega arith); child_list = h.child_list; children_last = λ e. h.children_last (omega arith) (simp unary_clauses cc) }

-- is the place read?
abbrev pub reads : Place → Bool
reads p = nat_le p.role 4

-- how many places are read
abbrev counted : List Place → ℕ
counted [] = 0
counted (p ∷ ps) = cond (reads p) (1 + counted ps) (counted ps)

as_counted : (ps : List Place) → counted ps ≡ count_by reads ps
as_counted = is_count_by counted reads refl (λ p ps. refl)

none_read : (ps : List Place) → counted ps ≡ 0 → (k : ℕ) → k < length ps → 4 < role_at ps k
none_read [] e k l = absurd (omega arith)
none_read (p ∷ ps) e zero l = elim (leb_tells p.role 4) [
  | inl t ↦ absurd (let g = rw t.0 at e in omega arith)
  | inr t ↦ t.1
]
none_read (p ∷ ps) e (suc k) l = elim (leb_tells p.role 4) [
  | inl t ↦ absurd (let g = rw t.0 at e in omega arith)
  | inr t ↦ none_read ps (rw t.0 at e) k (omega arith)
]

not_read : (ps : List Place) → ((k : ℕ) → k < length ps → 4 < role_at ps k) → counted ps ≡ 0
not_read [] h = refl
not_read (p ∷ ps) h = elim (leb_tells p.role 4) [
  | inl t ↦ absurd (let g = h 0 (omega arith) in let l = t.1 in omega arith)
  | inr t ↦ rw t.0 (not_read ps (λ k l. h (suc k) (omega arith)))
]

-- the first place and no later one
first_read : (p : Place) (ps : List Place) → p.role ≤ 4 → ((k : ℕ) → k < length ps → 4 < role_at ps k) → (j : ℕ) → j < suc (length ps) → role_at (p ∷ ps) j ≤ 4 → j ≡ 0
first_read p ps l h zero g r = refl
first_read p ps l h (suc j) g r = let f = h j (omega arith) in absurd (omega arith)

-- a later place
later_read : (p : Place) (ps : List Place) → 4 < p.role → (j : ℕ) → j < suc (length ps) → role_at (p ∷ ps) j ≤ 4 → (i : ℕ) × (j ≡ suc i) × (i < length ps) × (role_at ps i ≤ 4)
later_read p ps f zero g r = absurd (omega arith)
later_read p ps f (suc i) g r = (i, refl, omega arith, r)

one_read : (ps : List Place) → counted ps ≡ 1 → ReadsOne ps
one_read [] e = absurd (omega arith)
one_read (p ∷ ps) e = elim (leb_tells p.role 4) [
  | inl t ↦
      let first = first_read p ps t.1 (none_read ps (let g = rw t.0 at e in omega arith)) in
      record { read = (0, omega arith, t.1); alone = λ j k lj lk rj rk. let ej = first j lj rj in let ek = first k lk rk in omega arith }
  | inr t ↦
      let h = one_read ps (rw t.0 at e) in
      record {
        read = (suc h.read.0, let l = h.read.1 in omega arith, h.read.2);
        alone = λ j k lj lk rj rk.
            let a = later_read p ps t.1 j lj rj in
            let b = later_read p ps t.1 k lk rk in
            let e = h.alone a.0 b.0 a.2 b.2 a.3 b.3 in
            let ea = a.1 in
            let eb = b.1 in
            omega arith;
      }
]

read_once : (ps : List Place) → ReadsOne ps → counted ps ≡ 1
read_once [] h = absurd (let l = h.read.1 in omega arith)
read_once (p ∷ ps) h = elim (leb_tells p.role 4) [
  | inl t ↦ rw t.0 (ap (λ n. 1 + n) (not_read ps (λ k l. elim (leb_tells (role_at ps k) 4) [
    | inl r ↦ let e = h.alone 0 (suc k) (omega arith) (omega arith) t.1 r.1 in absurd (omega arith)
    | inr r ↦ r.1
  ])))
  | inr t ↦
      let a = later_read p ps t.1 h.read.0 h.read.1 h.read.2 in
      rw t.0 (read_once ps (record { read = (a.0, a.2, a.3); alone = λ j k lj lk rj rk. let e = h.alone (suc j) (suc k) (omega arith) (omega arith) rj rk in omega arith }))
]

pub one_counted : (n : ℕ) (ps : List Place) → n ≡ count_by reads ps → MatchBool (nat_eq n 1) (ReadsOne ps) (ReadsOne ps → ⊥)
one_counted n ps e = elim (eqb_tells n 1) [
  | inl t ↦ rw t.0 (one_read ps (as_counted ps ∙ sym e ∙ t.1))
  | inr t ↦ rw t.0 (λ h. t.1 (e ∙ sym (as_counted ps) ∙ read_once ps h))
]
