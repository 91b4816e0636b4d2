-- An element counts what its places count.
use Rattle.std.proofs.Common.{◌≡◌, ℕ, false, true, eqb, List, [], ◌∷◌, map, length, Some, None, Option, refl, sym, ap, ◌∙◌, inl, inr, arith}
use Rattle.std.specs.List.{AllByRecursion}
use Rattle.std.proofs.lemmas.Bool.{cases_Bool, eqb-true}
use Rattle.rules.specs.Lists.{select}
use Rattle.rules.specs.Kinds.{jsx_kind}
use Rattle.rules.specs.Names.{spell}
use Rattle.rules.specs.Views.{Bytes, PlaceV, InstructionV, is_element, role_is}
use Rattle.rules.proofs.Steps.{pick_true, pick_false}
use Rattle.laws.specs.Allowances.{Counts, no_counts, plus, letters_of, row_counts}
use Rattle.laws.proofs.Counting.{row_yes}
use Rattle.hir.specs.declared.rows.Name.{Name}
use Rattle.hir.specs.declared.rows.Place.{Place}
use Rattle.hir.specs.declared.rows.Counts.{Counts as Used}
use Rattle.hir.specs.declared.rows.Instruction.{Instruction}
use Rattle.hir.specs.Tables.{Tables}
use Rattle.hir.specs.View.{instruction_view, place_view, rows, spelt_if, view}
use Rattle.hir.specs.WellFormed.{NameIfFits, PlaceFits, Readable}
use Rattle.hir.proofs.Growth.{sizes_are}
use Rattle.hir.proofs.Runs.{length_run}
use Rattle.allowances.specs.Places.{letters_in, one_element, one_attribute, one_child, place_counts, places_counts}
use Rattle.allowances.proofs.Sums.{same_counts, same_numbers}

-- what an element of these places counts
abbrev pub of_places : List PlaceV → Counts
of_places ps = record { attributes = length (select (role_is 2) ps); children = length (select (role_is 4) ps); elements = 1; pairs = 0; listed = 0; letters = letters_of (select (role_is 2) ps) }

select_yes : (k : ℕ) (p : PlaceV) (ps : List PlaceV) → role_is k p ≡ true → select (role_is k) (p ∷ ps) ≡ p ∷ select (role_is k) ps
select_yes k p ps h = pick_true (role_is k p) (p ∷ select (role_is k) ps) (select (role_is k) ps) h

select_no : (k : ℕ) (p : PlaceV) (ps : List PlaceV) → role_is k p ≡ false → select (role_is k) (p ∷ ps) ≡ select (role_is k) ps
select_no k p ps h = pick_false (role_is k p) (p ∷ select (role_is k) ps) (select (role_is k) ps) h

spelt_length : (text : Bytes) (c : Used) (n : Option Name) → c.text ≡ length text → NameIfFits c n → length (spell (spelt_if text n)) ≡ letters_in n
spelt_length text c None e f = refl
spelt_length text c (Some n) e f = length_run (record { first = n.start; count = n.len }) text (omega arith)

other_place : (p : Place) → eqb p.role 2 ≡ false → place_counts p ≡ elim (eqb p.role 4) [ true ↦ one_child | false ↦ no_counts ]
other_place p h = pick_false (eqb p.role 2) (one_attribute (letters_in p.name)) (elim (eqb p.role 4) [ true ↦ one_child | false ↦ no_counts ]) h

module _ (text : Bytes) (c : Used) (e : c.text ≡ length text) where
  place_first : (p : Place) (ps : List Place) → PlaceFits c p → of_places (map (place_view text) ps) ≡ plus one_element (places_counts ps) → of_places (map (place_view text) (p ∷ ps)) ≡ plus one_element (places_counts (p ∷ ps))
  place_first p ps f h =
      let v = place_view text p in
      let vs = map (place_view text) ps in
      let i = same_numbers (of_places vs) (plus one_element (places_counts ps)) h in
      let l = spelt_length text c p.name e f.name in
      same_counts (of_places (v ∷ vs)) (plus one_element (places_counts (p ∷ ps)))
      (elim (cases_Bool (eqb p.role 2)) [
        | inl a ↦
            let b : eqb p.role 4 ≡ false = ap (λ r. eqb r 4) (eqb-true p.role 2 a) in
            let s = select_yes 2 v vs a in
            let t = select_no 4 v vs b in
            let q = same_numbers (place_counts p) (one_attribute (letters_in p.name)) (pick_true (eqb p.role 2) (one_attribute (letters_in p.name)) (elim (eqb p.role 4) [ true ↦ one_child | false ↦ no_counts ]) a) in
            omega (arith, ap (length {A = PlaceV}) s, ap letters_of s, ap (length {A = PlaceV}) t)
        | inr a ↦ elim (cases_Bool (eqb p.role 4)) [
          | inl b ↦
              let s = select_no 2 v vs a in
              let t = select_yes 4 v vs b in
              let q = same_numbers (place_counts p) one_child (other_place p a ∙ pick_true (eqb p.role 4) one_child no_counts b) in
              omega (arith, ap (length {A = PlaceV}) s, ap letters_of s, ap (length {A = PlaceV}) t)
          | inr b ↦
              let s = select_no 2 v vs a in
              let t = select_no 4 v vs b in
              let q = same_numbers (place_counts p) no_counts (other_place p a ∙ pick_false (eqb p.role 4) one_child no_counts b) in
              omega (arith, ap (length {A = PlaceV}) s, ap letters_of s, ap (length {A = PlaceV}) t)
        ]
      ])

  pub places_seen : (ps : List Place) → AllByRecursion (PlaceFits c) ps → of_places (map (place_view text) ps) ≡ plus one_element (places_counts ps)
  places_seen [] a = refl
  places_seen (p ∷ ps) a = place_first p ps a.0 (places_seen ps a.1)

pub element_counted : (t : Tables) → Readable t → (i : InstructionV) (x : Instruction) (ps : List Place) → i ≡ instruction_view (rows t) x → eqb x.kind jsx_kind ≡ true → map (place_view (view t).text) ps ≡ i.places → AllByRecursion (PlaceFits t.counts) ps → plus one_element (places_counts ps) ≡ row_counts i
element_counted t w i x ps e k s f =
    let n : t.counts.text ≡ length (view t).text = sym (ap (λ (c : Used). c.text) (sizes_are t w.counted)) in
    sym (places_seen (view t).text t.counts n ps f) ∙ ap of_places s ∙ sym (row_yes i (ap is_element e ∙ k))
