-- A group that is outlined meets what the value of its call rests on.
use Rattle.std.proofs.Common.{◌≡◌, ℕ, ◌<◌, ◌≤◌, true, false, eqb, ◌⊎◌, List, [], ◌∷◌, ◌++◌, map, length, None, sym, refl, ◌∙◌, subst, inl, inr, arith}
use Rattle.rules.specs.Lists.{gathered, select, Lists, here, there, Distinct, Sublist}
use Rattle.rules.specs.Views.{write, Bytes, PlaceV, InstructionV, FunctionV, absent, promoted, Hir, role_is, is_written, identifiers_of, reads, writes, is_element, is_global, results}
use Rattle.rules.specs.Names.{tag_temporary, temporary}
use Rattle.rules.specs.Props.{start_gathering, create_old_to_new_props_mapping, OutlinedJsxAttribute, collect_props, fresh, Bound, Mapping}
use Rattle.rules.specs.Emit.{as_attribute, tag_places, last_of, take_tag, Prepared, prepare}
use Rattle.rules.specs.Runs.{Attribute, attributes, Reading, Calls, runs, loaded, from_start}
use Rattle.rules.specs.Drawn.{Admitted, Ordered}
use Rattle.rules.proofs.Membership.{select_in, selected, In, Out, in_out, in_left, in_right, in_head, in_gathered, out_parts, distinct_left, gathered-++, lists_none, lists_split}
use Rattle.rules.proofs.Sublists.{sub_lists, sub_ordered, sub_before, AllBefore, before_or_last, ordered_left, ordered_right, ordered_split}
use Rattle.rules.proofs.Steps.{role_read, runs_out}
use Rattle.rules.proofs.Calling.{calls}
use Rattle.rules.proofs.Settled.{settled_element, settled_load, not_phi}
use Rattle.rules.proofs.Growing.{Grown, grown_then, fresh_grown, fresh_length}
use Rattle.rules.proofs.Gathered.{gather_grown, gather_leads, gather_covers, gather_from, empty_leads, Covered}
use Rattle.rules.proofs.Bindings.{olds, bind_grown, bind_well, bind_covers, Well}
use Rattle.rules.proofs.GroupValue.{place_read, Solved, Group}
use Rattle.rules.proofs.TagLoads.{Copies, copies_from, copies_all, places_of, member_places, places_member}

-- taking a tag and the fresh identifiers keeps the rows
take_grown : (h : Hir) → Grown h (take_tag h)
take_grown h = record { functions = refl; bears = refl; rows = refl; identifiers = omega arith }

write_grown : (h : Hir) (made : Bytes) → Grown h (write h made)
write_grown h made = record { functions = refl; bears = refl; rows = refl; identifiers = omega arith }

-- the store once the load has its identifier
abbrev with_load : Hir → Hir
with_load h = write (fresh (take_tag h) (promoted (tag_temporary (length h.identifiers)))) (tag_temporary (length h.identifiers))

-- and from there to the end of the preparing
bound_grown : (h : Hir) (es : List OutlinedJsxAttribute) → Grown (with_load h) (prepare h es).hir
bound_grown h es =
    let bound = create_old_to_new_props_mapping (with_load h) es in
    let param = length bound.hir.identifiers in
    let h₁ = fresh bound.hir (promoted (temporary param)) in
    grown_then (bind_grown (record { hir = with_load h; table = [] }) es)
    (grown_then (fresh_grown bound.hir (promoted (temporary param))) (grown_then (write_grown h₁ (temporary param)) (fresh_grown (write h₁ (temporary param)) absent)))

pub prepare_grown : (h : Hir) (es : List OutlinedJsxAttribute) → Grown h (prepare h es).hir
prepare_grown h es =
    let name = tag_temporary (length h.identifiers) in
    grown_then (take_grown h) (grown_then (fresh_grown (take_tag h) (promoted name)) (grown_then (write_grown (fresh (take_tag h) (promoted name)) name) (bound_grown h es)))

-- the load's identifier is a new one
pub prepare_load : (h : Hir) (es : List OutlinedJsxAttribute) → length h.identifiers < length (prepare h es).hir.identifiers
prepare_load h es =
    let a = fresh_length (take_tag h) (promoted (tag_temporary (length h.identifiers))) in
    let b = (bound_grown h es).identifiers in
    omega arith

module _ {V : Type 0} (r : Reading V) (F : Hir) (f k : ℕ) (own rows : List InstructionV) (size : ℕ)
    (distinct : Distinct (gathered writes rows)) (ordered : Ordered rows)
    (small : (i : InstructionV) → Lists rows i → (x : ℕ) → In x (reads i ++ writes i) → x < size) where
  -- a load among the globals
  pub record Known (l : InstructionV) : Type 0 where
    pub global : is_global l ≡ true
    pub name : In l.result.identifier (gathered reads rows) → loaded own l.result.identifier ≡ l.name
    pub place : In l.result.identifier (gathered reads rows)
        → Lists rows l ⊎ (Out l.result.identifier (gathered writes rows) × ((e : ℕ → V) → Admitted r F f k e → e l.result.identifier ≡ r.global l.name l.detail))

  -- so at a cut of the block it has its value
  load_right : (e : ℕ → V) → Admitted r F f k e → (c : Calls V) (before rest : List InstructionV) → rows ≡ before ++ rest → (l : InstructionV)
      → Known l → Out l.result.identifier (gathered writes rest) → In l.result.identifier (gathered reads rows)
      → (runs r c None (from_start e) before).value l.result.identifier ≡ r.global l.name l.detail
  load_right e a c before rest eq l kn o i =
      let x = l.result.identifier in
      let d : Distinct (gathered writes before ++ gathered writes rest) = subst (λ (z : List ℕ). Distinct z) (gathered-++ writes before rest) (subst (λ (z : List InstructionV). Distinct (gathered writes z)) eq distinct) in
      elim (kn.place i) [
        | inl p ↦ elim (lists_split before (subst (λ (z : List InstructionV). Lists z l) eq p)) [
          | inl q ↦ settled_load r c (from_start e) q kn.global (distinct_left (gathered writes before) (gathered writes rest) d)
          | inr q ↦ in_out x (gathered writes rest) (in_gathered writes x q (in_head x (identifiers_of (select is_written l.places)))) o
        ]
        | inr p ↦ runs_out r c None (from_start e) before x (out_parts x (gathered writes before) (gathered writes rest) (subst (λ (z : List ℕ). Out x z) (gathered-++ writes before rest) (subst (λ (z : List InstructionV). Out x (gathered writes z)) eq p.0))).0 ∙ p.1 e a
      ]

  module _ (gs : List InstructionV) (known : (l : InstructionV) → Lists gs l → Known l)
      (m : InstructionV) (ms : List InstructionV) (sub : Sublist (m ∷ ms) rows) (jsx : (n : InstructionV) → Lists (m ∷ ms) n → is_element n ≡ true)
      (h₀ : Hir) (large : size ≤ length h₀.identifiers) (going : (collect_props h₀ (m ∷ ms)).ended ≡ false)
      (loads : List InstructionV) (cs : Copies gs (tag_places (m ∷ ms)) loads) where
    ids : List ℕ
    ids = results (m ∷ ms)

    -- a copied load is read by a member
    load_member : (l : InstructionV) → Lists loads l → (n : InstructionV) × Lists (m ∷ ms) n × In l.result.identifier (reads n)
    load_member l q =
        let u = (copies_from cs l q).1 in
        let v = selected (role_is 1) (places_of (m ∷ ms)) u.0 u.1 in
        let w = places_member (m ∷ ms) u.0 v.0 in
        (w.0, w.1, subst (λ x. In x (reads w.0)) (sym u.2) (place_read w.0.places u.0 w.2 (role_read u.0.role 1 v.1 refl)))

    load_read : (l : InstructionV) → Lists loads l → In l.result.identifier (gathered reads rows)
    load_read l q = let u = load_member l q in in_gathered reads l.result.identifier (sub_lists sub u.1) u.2

    pub load_names : (l : InstructionV) → Lists loads l → loaded own l.result.identifier ≡ l.name
    load_names l q = (known l (copies_from cs l q).0).name (load_read l q)

    -- an entry's identifier is read by a row of the block
    pub entry_reads : (e : OutlinedJsxAttribute) → Lists (collect_props h₀ (m ∷ ms)).entries e → In e.place.identifier (gathered reads rows)
    entry_reads = gather_from (results (m ∷ ms)) (λ x. In x (gathered reads rows)) (start_gathering h₀) (places_of (m ∷ ms))
        (λ p l h. let w = places_member (m ∷ ms) p l in in_gathered reads p.identifier (sub_lists sub w.1) (place_read w.0.places p w.2 h))
        (λ e l. lists_none l)

    module _ (fs : List FunctionV) (e : ℕ → V) (admitted : Admitted r F f k e) (before after : List InstructionV) (eq : rows ≡ before ++ (last_of m ms ∷ after)) where
      abbrev S : ℕ → V
      S = (runs r (calls r e fs own) None (from_start e) before).value

      abbrev entries : List OutlinedJsxAttribute
      entries = (collect_props h₀ (m ∷ ms)).entries

      abbrev given : List (Attribute V)
      given = attributes S (map as_attribute entries)

      abbrev prepared : Prepared
      prepared = prepare (collect_props h₀ (m ∷ ms)).hir entries

      -- the table is well made
      well : Well S given size (create_old_to_new_props_mapping (with_load (collect_props h₀ (m ∷ ms)).hir) entries)
      well =
          let h = (collect_props h₀ (m ∷ ms)).hir in
          let leads = gather_leads S (results (m ∷ ms)) (start_gathering h₀) (places_of (m ∷ ms)) (empty_leads S h₀) in
          let i = (gather_grown (results (m ∷ ms)) (start_gathering h₀) (places_of (m ∷ ms))).identifiers in
          let j = fresh_length (take_tag h) (promoted (tag_temporary (length h.identifiers))) in
          bind_well S given size (record { hir = with_load h; table = [] }) entries (omega arith) (λ e l k. leads.found e l k)
          (record { fits = λ b l. lists_none l; above = λ b l. lists_none l; below = λ b l. lists_none l; distinct = tt })

      ordered_here : Ordered (before ++ (last_of m ms ∷ after))
      ordered_here = subst Ordered eq ordered

      distinct_here : Distinct (gathered writes (before ++ (last_of m ms ∷ after)))
      distinct_here = subst (λ (z : List InstructionV). Distinct (gathered writes z)) eq distinct

      distinct_before : Distinct (gathered writes before)
      distinct_before = distinct_left (gathered writes before) (gathered writes (last_of m ms ∷ after)) (subst (λ (z : List ℕ). Distinct z) (gathered-++ writes before (last_of m ms ∷ after)) distinct_here)

      all_before : AllBefore before (m ∷ ms)
      all_before = sub_before before after m ms distinct_here (subst (λ (z : List InstructionV). Sublist (m ∷ ms) z) eq sub)

      -- the members are satisfied by the values at the cut before the root
      solve : (a : (b : Bound) → Lists prepared.table b → size ≤ b.fresh) (n : InstructionV) (ns : List InstructionV) → AllBefore before (n ∷ ns)
          → ((i : InstructionV) → Lists (n ∷ ns) i → is_element i ≡ true)
          → Solved r S given (results (m ∷ ms)) prepared.table size a (calls r e fs own) (n ∷ ns)
      solve a n [] b j = (tt, tt)
      solve a n (o ∷ ns) b j = (settled_element r (calls r e fs own) (from_start e) b.0 (j n here) distinct_before (ordered_left before (last_of m ms ∷ after) ordered_here), solve a o ns b.1 (λ i l. j i (there l)))

      -- all that the value of the call rests on
      pub group : Group r e fs own S given size prepared.table loads m ms
      group = record {
        above = well.above;
        distinct = well.distinct;
        fits = well.fits;
        copies = λ l q.
            let kn = known l (copies_from cs l q).0 in
            let u = load_member l q in
            let x = l.result.identifier in
            let phi = not_phi u.0.kind 16 (jsx u.0 u.1) refl in
            record {
              global = kn.global;
              low = small u.0 (sub_lists sub u.1) x (in_left x (reads u.0) (writes u.0) u.2);
              right = load_right e admitted (calls r e fs own) before (last_of m ms ∷ after) eq l kn
                  (elim (before_or_last before m ms u.0 all_before u.1) [
                    | inl b ↦ ordered_split before (last_of m ms ∷ after) ordered_here b phi x u.2
                    | inr b ↦ (ordered_right before (last_of m ms ∷ after) ordered_here).0 (subst (λ (z : InstructionV). eqb z.kind 0 ≡ false) b phi) x (subst (λ (z : InstructionV). In x (reads z)) b u.2)
                  ])
                  (load_read l q);
            };
        names = load_names;
        members = λ n l.
            let cov : (p : PlaceV) → Lists n.places p → Covered (results (m ∷ ms)) entries p = λ p q. gather_covers (results (m ∷ ms)) (start_gathering h₀) (places_of (m ∷ ms)) going p (member_places (m ∷ ms) n p l q) in
            let start : Mapping = record { hir = with_load (collect_props h₀ (m ∷ ms)).hir; table = [] } in
            record {
              is_jsx = jsx n l;
              low = small n (sub_lists sub l) n.result.identifier (in_right n.result.identifier (reads n) (writes n) (in_head n.result.identifier (identifiers_of (select is_written n.places))));
              no_spread = λ p q. (cov p q).no_spread;
              attr = λ p q a b. let u = (cov p q).attr a b in subst (λ x. In x (olds prepared.table)) u.3 (bind_covers start entries u.0 u.1 u.2);
              outside = λ p q a b. let u = (cov p q).child a b in subst (λ x. In x (olds prepared.table)) u.3 (bind_covers start entries u.0 u.1 u.2);
              tag = λ p q a. copies_all cs p (select_in (role_is 1) (places_of (m ∷ ms)) p (member_places (m ∷ ms) n p l q) a);
            };
        ordered = sub_ordered sub ordered;
        solved = solve well.above m ms all_before jsx;
      }
