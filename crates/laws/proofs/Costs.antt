-- What one group takes is within its members' share.
use Rattle.std.proofs.Common.{◌≡◌, ℕ, suc, ◌+◌, ◌*◌, ◌≤◌, true, false, not, eqb, List, [], ◌∷◌, ◌++◌, map, length, get_or, Some, None, sym, refl, ap, ◌∙◌, subst, inl, inr, arith, length-append}
use Rattle.std.proofs.lemmas.List.{get_or_push, append-nil}
use Rattle.std.proofs.lemmas.Bool.{cases_Bool, both_ways, eqb-true, and_parts}
use Rattle.rules.specs.Lists.{select, gathered, within, Lists, here, there}
use Rattle.rules.specs.Views.{PlaceV, InstructionV, FunctionV, absent, named, promoted, Hir, role_is, place_of, named_place, is_element, function_rows, no_function, results, write}
use Rattle.rules.specs.Names.{tag_temporary, temporary, is_key}
use Rattle.rules.specs.Props.{OutlinedJsxAttribute, Gathering, gather_place, gather, start_gathering, collect_props, fresh, Bound, put, latest, Mapping, bind_entries, create_old_to_new_props_mapping}
use Rattle.rules.specs.Emit.{as_attribute, bound_place, tag_places, updated_places, updated, Prepared, prepare, take_tag, emit_outlined_fn, outcome, Report, nothing, Outcome, process_jsx_group}
use Rattle.rules.proofs.Positions.{length_changed}
use Rattle.rules.proofs.Steps.{pick_true, pick_false}
use Rattle.laws.specs.Allowances.{Counts, rows_counts}
use Rattle.laws.specs.Taking.{places_of, terminal_places, appended_by, group_numbers, group_places}
use Rattle.laws.specs.Sufficing.{Formed, blocks_in}
use Rattle.laws.proofs.Ways.{outer_child, gather_ways, bind_ways, bound_next, promote_ways, promoting, close_ways, emit_ways}
use Rattle.laws.proofs.Groups.{collect_on}
use Rattle.laws.proofs.Reports.{Quiet, quiet_refl, collect_quiet, prepare_quiet}
use Rattle.laws.proofs.Counting.{row_yes}

-- Places by role.

abbrev pub count : ℕ → List PlaceV → ℕ
count k ps = length (select (role_is k) ps)

count-++ : (k : ℕ) (ps qs : List PlaceV) → count k (ps ++ qs) ≡ count k ps + count k qs
count-++ k [] qs = omega arith
count-++ k (p ∷ ps) qs =
    let q = count-++ k ps qs in
    elim (role_is k p) as (λ b. length (elim b as (λ _. List PlaceV) [ true ↦ p ∷ select (role_is k) (ps ++ qs) | false ↦ select (role_is k) (ps ++ qs) ]) ≡ length (elim b as (λ _. List PlaceV) [ true ↦ p ∷ select (role_is k) ps | false ↦ select (role_is k) ps ]) + count k qs) [
      | true ↦ omega arith
      | false ↦ omega arith
    ]

pub count_yes : (k : ℕ) (p : PlaceV) (ps : List PlaceV) → role_is k p ≡ true → count k (p ∷ ps) ≡ suc (count k ps)
count_yes k p ps h = ap (λ (l : List PlaceV). length l) (pick_true (role_is k p) (p ∷ select (role_is k) ps) (select (role_is k) ps) h)

pub count_more : (k : ℕ) (p : PlaceV) (ps : List PlaceV) → count k ps ≤ count k (p ∷ ps)
count_more k p ps = elim (role_is k p) as (λ b. count k ps ≤ length (elim b as (λ _. List PlaceV) [ true ↦ p ∷ select (role_is k) ps | false ↦ select (role_is k) ps ])) [ true ↦ omega arith | false ↦ omega arith ]

abbrev pub AllElements : List InstructionV → Type 0
AllElements ms = (i : InstructionV) → Lists ms i → is_element i ≡ true

abbrev pub member_places : List InstructionV → List PlaceV
member_places ms = gathered (λ (m : InstructionV). m.places) ms

-- the members' places, as the counts have them
pub record Members (ms : List InstructionV) : Type 0 where
  pub attributes : count 2 (member_places ms) ≡ (rows_counts ms).attributes
  pub children : count 4 (member_places ms) ≡ (rows_counts ms).children
  pub elements : length ms ≡ (rows_counts ms).elements

pub members_counted : (ms : List InstructionV) → AllElements ms → Members ms
members_counted [] h = record { attributes = refl; children = refl; elements = refl }
members_counted (m ∷ ms) h =
    let e = row_yes m (h m here) in
    let a = ap (λ (c : Counts). c.attributes) e in
    let c' = ap (λ (c : Counts). c.children) e in
    let f = ap (λ (c : Counts). c.elements) e in
    let q = members_counted ms (λ i l. h i (there l)) in
    let qa = q.attributes in let qc = q.children in let qe = q.elements in
    let x = count-++ 2 m.places (member_places ms) in
    let y = count-++ 4 m.places (member_places ms) in
    record { attributes = omega arith; children = omega arith; elements = omega arith }

-- Gathering.

-- one place gives one entry at most
place_entries : (members : List ℕ) (g : Gathering) (p : PlaceV) (ps : List PlaceV) → length (gather_place members g p).entries + count 2 ps + count 4 ps ≤ length g.entries + count 2 (p ∷ ps) + count 4 (p ∷ ps)
place_entries members g p ps =
    let m₂ = count_more 2 p ps in
    let m₄ = count_more 4 p ps in
    gather_ways (λ g'. length g'.entries + count 2 ps + count 4 ps ≤ length g.entries + count 2 (p ∷ ps) + count 4 (p ∷ ps)) members g p
    (λ _. omega arith)
    (λ _ r. let y = count_yes 2 p ps r in simp length-append (omega arith))
    (λ _ _ _. omega arith)
    (λ _ _ _ c. let y = count_yes 4 p ps (and_parts (role_is 4 p) (not (within p.identifier members)) c).0 in simp length-append (omega arith))
    (λ _ _ _ _. omega arith)

gather_entries : (members : List ℕ) (g : Gathering) (ps : List PlaceV) → length (gather members g ps).entries ≤ length g.entries + count 2 ps + count 4 ps
gather_entries members g [] = omega arith
gather_entries members g (p ∷ ps) =
    let a = place_entries members g p ps in
    let b = gather_entries members (gather_place members g p) ps in
    omega arith

pub collect_entries : (h : Hir) (ms : List InstructionV) → AllElements ms → length (collect_props h ms).entries ≤ (rows_counts ms).attributes + (rows_counts ms).children
collect_entries h ms j =
    let a = gather_entries (results ms) (start_gathering h) (member_places ms) in
    let q = members_counted ms j in
    let x = q.attributes in let y = q.children in
    omega arith

-- gathering takes no identifier
abbrev SameSize : Hir → Hir → Type 0
SameSize a b = length b.identifiers ≡ length a.identifiers

pub collect_size : (h : Hir) (ms : List InstructionV) → length (collect_props h ms).hir.identifiers ≡ length h.identifiers
collect_size = collect_on SameSize (λ h. refl) (λ a b c p q. q ∙ p) (λ h made. refl) (λ h x. promote_ways (SameSize h) h x (λ _. length_changed promoting x h.identifiers) refl)

-- a spread ends it for good
place_ended : (members : List ℕ) (g : Gathering) (p : PlaceV) → g.ended ≡ true → (gather_place members g p).ended ≡ true
place_ended members g p h = gather_ways (λ g'. g'.ended ≡ true) members g p (λ e. e)
    (λ n _. absurd (both_ways g.ended n h)) (λ n _ _. refl) (λ n _ _ _. absurd (both_ways g.ended n h)) (λ n _ _ _. h)

ended_stays : (members : List ℕ) (g : Gathering) (ps : List PlaceV) → g.ended ≡ true → (gather members g ps).ended ≡ true
ended_stays members g [] h = h
ended_stays members g (p ∷ ps) h = ended_stays members (gather_place members g p) ps (place_ended members g p h)

place_spread : (members : List ℕ) (g : Gathering) (p : PlaceV) → (gather_place members g p).ended ≡ false → role_is 3 p ≡ false
place_spread members g p = gather_ways (λ g'. g'.ended ≡ false → role_is 3 p ≡ false) members g p
    (λ e f. absurd (both_ways g.ended f e))
    (λ _ r _. ap (λ (n : ℕ). eqb n 3) (eqb-true p.role 2 r))
    (λ _ _ r f. absurd (both_ways true f refl))
    (λ _ _ r _ _. r)
    (λ _ _ r _ _. r)

gather_spread : (members : List ℕ) (g : Gathering) (ps : List PlaceV) → (gather members g ps).ended ≡ false → count 3 ps ≡ 0
gather_spread members g [] h = refl
gather_spread members g (p ∷ ps) h =
    let f : (gather_place members g p).ended ≡ false = elim (cases_Bool (gather_place members g p).ended) [ inl e ↦ absurd (both_ways (gather members (gather_place members g p) ps).ended h (ended_stays members (gather_place members g p) ps e)) | inr e ↦ e ] in
    ap (λ (l : List PlaceV). length l) (pick_false (role_is 3 p) (p ∷ select (role_is 3) ps) (select (role_is 3) ps) (place_spread members g p f)) ∙ gather_spread members (gather_place members g p) ps h

-- Binding.

put_length : (b : Bound) (t : List Bound) → length (put b t) ≤ suc (length t)
put_length b [] = omega arith
put_length b (c ∷ t) =
    let q = put_length b t in
    elim (eqb b.old c.old) as (λ k. length (elim k as (λ _. List Bound) [ true ↦ b ∷ t | false ↦ c ∷ put b t ]) ≤ suc (suc (length t))) [ true ↦ omega arith | false ↦ omega arith ]

pub record Bounded (m m' : Mapping) (n : ℕ) : Type 0 where
  pub identifiers : length m'.hir.identifiers ≤ length m.hir.identifiers + n
  pub table : length m'.table ≤ length m.table + n

bind_bounded : (m : Mapping) (es : List OutlinedJsxAttribute) → Bounded m (bind_entries m es) (length es)
bind_bounded m [] = record { identifiers = omega arith; table = omega arith }
bind_bounded m (e ∷ es) = bind_ways (λ m'. Bounded m m' (suc (length es))) m e es
    (λ _. let q = bind_bounded m es in let a = q.identifiers in let b = q.table in record { identifiers = omega arith; table = omega arith })
    (λ _.
    let q = bind_bounded (bound_next m e) es in
    let a = q.identifiers in let b = q.table in
    let l = length-append m.hir.identifiers (record { declaration = length m.hir.identifiers; name = named e.new_name } ∷ []) in
    let k = put_length (record { old = e.place.identifier; key = e.new_name; fresh = length m.hir.identifiers }) m.table in
    record { identifiers = omega arith; table = omega arith })

pub record PreparedBounded (h : Hir) (t : Prepared) (n : ℕ) : Type 0 where
  pub identifiers : length t.hir.identifiers ≤ length h.identifiers + n + 3
  pub param : t.param + 2 ≡ length t.hir.identifiers
  pub table : length t.table ≤ n

pub prepare_bounded : (h : Hir) (es : List OutlinedJsxAttribute) → PreparedBounded h (prepare h es) (length es)
prepare_bounded h es =
    let load = length h.identifiers in
    let h₁ = write (fresh (take_tag h) (promoted (tag_temporary load))) (tag_temporary load) in
    let bound = create_old_to_new_props_mapping h₁ es in
    let param = length bound.hir.identifiers in
    let h₃ = write (fresh bound.hir (promoted (temporary param))) (temporary param) in
    let l₁ = length-append h.identifiers (record { declaration = load; name = promoted (tag_temporary load) } ∷ []) in
    let l₂ = length-append bound.hir.identifiers (record { declaration = param; name = promoted (temporary param) } ∷ []) in
    let l₃ = length-append h₃.identifiers (record { declaration = length h₃.identifiers; name = absent } ∷ []) in
    let q = bind_bounded (record { hir = h₁; table = [] }) es in
    let a = q.identifiers in let b = q.table in
    record { identifiers = omega arith; param = omega arith; table = omega arith }

-- The function's rows.

length_map : {A B : Type 0} (f : A → B) (xs : List A) → length (map f xs) ≡ length xs
length_map f [] = refl
length_map f (x ∷ xs) = ap suc (length_map f xs)

pub function_length : (t : Prepared) (m : InstructionV) (ms ls : List InstructionV) → length (function_rows (emit_outlined_fn t m ms ls)) ≡ 1 + length ls + length (m ∷ ms)
function_length t m ms ls =
    let a = ap (λ (l : List InstructionV). length l) (append-nil (ls ++ map (updated (results (m ∷ ms)) t.table) (m ∷ ms))) in
    let b = length-append ls (map (updated (results (m ∷ ms)) t.table) (m ∷ ms)) in
    let c = length_map (updated (results (m ∷ ms)) t.table) (m ∷ ms) in
    omega arith

-- a load for each member at most
pub tag_places_few : (ms : List InstructionV) → AllElements ms → ((i : InstructionV) → Lists ms i → Formed i) → length (tag_places ms) ≤ length ms
tag_places_few [] j k = omega arith
tag_places_few (m ∷ ms) j k =
    let q = tag_places_few ms (λ i l. j i (there l)) (λ i l. k i (there l)) in
    let a = (k m here).tag (j m here) in
    let b = count-++ 1 m.places (member_places ms) in
    omega arith

-- the function that a group appends stands at the end
pub appended_is : (fs : List FunctionV) (h : Hir) (fn : FunctionV) → fs ≡ h.functions → get_or (fs ++ (fn ∷ [])) (length h.functions) no_function ≡ fn
appended_is fs h fn e = get_or_push fs fn no_function (length h.functions) (ap (λ (l : List FunctionV). length l) e)

-- Its places.

updated_few : (ids : List ℕ) (t : List Bound) (ps : List PlaceV) → length (updated_places ids t ps) ≤ length ps
updated_few ids t [] = omega arith
updated_few ids t (p ∷ ps) =
    let q = updated_few ids t ps in
    let rest = updated_places ids t ps in
    elim (role_is 2 p) as (λ b. length (elim b as (λ _. List PlaceV) [ true ↦ elim (is_key p.name) [ true ↦ rest | false ↦ named_place 2 p.name (latest t p.identifier) ∷ rest ] | false ↦ elim (outer_child ids p) [ true ↦ place_of 4 (latest t p.identifier) ∷ rest | false ↦ p ∷ rest ] ]) ≤ suc (length ps)) [
      | true ↦ elim (is_key p.name) as (λ b. length (elim b as (λ _. List PlaceV) [ true ↦ rest | false ↦ named_place 2 p.name (latest t p.identifier) ∷ rest ]) ≤ suc (length ps)) [ true ↦ omega arith | false ↦ omega arith ]
      | false ↦ elim (outer_child ids p) as (λ b. length (elim b as (λ _. List PlaceV) [ true ↦ place_of 4 (latest t p.identifier) ∷ rest | false ↦ p ∷ rest ]) ≤ suc (length ps)) [ true ↦ omega arith | false ↦ omega arith ]
    ]

updated_places_few : (ids : List ℕ) (t : List Bound) (ms : List InstructionV) → places_of (map (updated ids t) ms) ≤ places_of ms
updated_places_few ids t [] = omega arith
updated_places_few ids t (m ∷ ms) =
    let q = updated_places_few ids t ms in
    let a = updated_few ids t m.places in
    let b = length-append (updated_places ids t m.places) (member_places (map (updated ids t) ms)) in
    let c = length-append m.places (member_places ms) in
    omega arith

places-++ : (is js : List InstructionV) → places_of (is ++ js) ≡ places_of is + places_of js
places-++ [] js = omega arith
places-++ (i ∷ is) js =
    let q = places-++ is js in
    let a = length-append i.places (member_places (is ++ js)) in
    let b = length-append i.places (member_places is) in
    omega arith

no_places : (ls : List InstructionV) → ((i : InstructionV) → Lists ls i → i.places ≡ []) → places_of ls ≡ 0
no_places [] h = refl
no_places (i ∷ ls) h = ap (λ (ps : List PlaceV). length (ps ++ member_places ls)) (h i here) ∙ no_places ls (λ j l. h j (there l))

-- without a spread an element has its tag, its attributes and its children
members_places : (ms : List InstructionV) → AllElements ms → ((i : InstructionV) → Lists ms i → Formed i) → places_of ms ≤ length ms + count 2 (member_places ms) + count 3 (member_places ms) + count 4 (member_places ms)
members_places [] j k = omega arith
members_places (m ∷ ms) j k =
    let q = members_places ms (λ i l. j i (there l)) (λ i l. k i (there l)) in
    let a = (k m here).tag (j m here) in
    let b = (k m here).roles (j m here) in
    let c₂ = count-++ 2 m.places (member_places ms) in
    let c₃ = count-++ 3 m.places (member_places ms) in
    let c₄ = count-++ 4 m.places (member_places ms) in
    let l = length-append m.places (member_places ms) in
    omega arith

function_places : (t : Prepared) (m : InstructionV) (ms ls : List InstructionV) → ((i : InstructionV) → Lists ls i → i.places ≡ []) → places_of (function_rows (emit_outlined_fn t m ms ls)) ≤ 1 + length t.table + places_of (m ∷ ms)
function_places t m ms ls h =
    let us = map (updated (results (m ∷ ms)) t.table) (m ∷ ms) in
    let a = ap places_of (append-nil (ls ++ us)) in
    let b = places-++ ls us in
    let c = no_places ls h in
    let d = updated_places_few (results (m ∷ ms)) t.table (m ∷ ms) in
    let e = length_map bound_place t.table in
    let l = length-append (map bound_place t.table) (member_places ((ls ++ us) ++ [])) in
    omega arith

-- The whole group.

abbrev pub Loads : List InstructionV → Type 0
Loads gs = (i : InstructionV) → Lists gs i → i.places ≡ []

abbrev pub AllFormed : List InstructionV → Type 0
AllFormed is = (i : InstructionV) → Lists is i → Formed i

pub record GroupCost (h : Hir) (o : Outcome) (c : Counts) : Type 0 where
  pub identifiers : length o.hir.identifiers ≤ length h.identifiers + (c.attributes + c.children + 4)
  pub used_rows : o.hir.used_rows ≤ h.used_rows + (3 + 2 * c.elements)
  pub blocks : blocks_in o.hir.functions ≤ blocks_in h.functions + 1
  pub functions : length o.hir.functions ≤ length h.functions + 1
  pub numbers : group_numbers h o ≤ 1 + 2 * c.elements
  pub places : group_places h o ≤ 4 + c.elements + 3 * (c.attributes + c.children)

-- where only names and identifiers change, and no call is written
quiet_cost : (h h' : Hir) (c : Counts) (r : Report) → Quiet h h' → length h'.identifiers ≤ length h.identifiers + (c.attributes + c.children + 4) → GroupCost h (record { hir = h'; rewrites = []; report = r }) c
quiet_cost h h' c r q l =
    let u = q.used_rows in
    let f = ap (λ (fs : List FunctionV). length fs) q.functions in
    let b = ap blocks_in q.functions in
    record { identifiers = l; used_rows = omega arith; blocks = omega arith; functions = omega arith; numbers = omega arith; places = omega arith }

blocks-++ : (fs gs : List FunctionV) → blocks_in (fs ++ gs) ≡ blocks_in fs + blocks_in gs
blocks-++ [] gs = omega arith
blocks-++ (f ∷ fs) gs = let q = blocks-++ fs gs in omega arith

module _ (type : ℕ) (gs : List InstructionV) (a b : InstructionV) (ms : List InstructionV) (h : Hir) (l : Loads gs) (j : AllElements (a ∷ b ∷ ms)) (k : AllFormed (a ∷ b ∷ ms)) where
  abbrev all : List InstructionV
  all = a ∷ b ∷ ms

  abbrev g : Gathering
  g = collect_props h all

  abbrev c : Counts
  c = rows_counts all

  abbrev t : Prepared
  t = prepare g.hir g.entries

  none_cost : GroupCost h (outcome t g.entries a (b ∷ ms) None) c
  none_cost =
      let q = collect_quiet h all in
      let p = prepare_quiet g.hir g.entries in
      let e = collect_entries h all j in
      let s = collect_size h all in
      let i = (prepare_bounded g.hir g.entries).identifiers in
      let u = q.used_rows in let v = p.used_rows in
      let f = ap (λ (fs : List FunctionV). length fs) (p.functions ∙ q.functions) in
      let bl = ap blocks_in (p.functions ∙ q.functions) in
      record { identifiers = omega arith; used_rows = omega arith; blocks = omega arith; functions = omega arith; numbers = omega arith; places = omega arith }

  some_cost : (ls : List InstructionV) → g.ended ≡ false → length ls ≡ length (tag_places all) → ((i : InstructionV) → Lists ls i → Lists gs i) → GroupCost h (outcome t g.entries a (b ∷ ms) (Some ls)) c
  some_cost ls n le from =
      let q = collect_quiet h all in
      let p = prepare_quiet g.hir g.entries in
      let e = collect_entries h all j in
      let s = collect_size h all in
      let pb = prepare_bounded g.hir g.entries in
      let i = pb.identifiers in let tb = pb.table in
      let u = q.used_rows in let v = p.used_rows in
      let same : t.hir.functions ≡ h.functions = p.functions ∙ q.functions in
      let f = ap (λ (fs : List FunctionV). length fs) same in
      let bl = ap blocks_in same in
      let fn = emit_outlined_fn t a (b ∷ ms) ls in
      let fl = length-append t.hir.functions (fn ∷ []) in
      let fb = blocks-++ t.hir.functions (fn ∷ []) in
      let il = length-append t.hir.identifiers (record { declaration = length t.hir.identifiers; name = absent } ∷ []) in
      let mc = members_counted all j in
      let mcₐ = mc.attributes in let mc₄ = mc.children in let mcₑ = mc.elements in
      let few = tag_places_few all j k in
      let rows = function_length t a (b ∷ ms) ls in
      let at : appended_by h (outcome t g.entries a (b ∷ ms) (Some ls)) ≡ fn = appended_is t.hir.functions h fn same in
      let rows' = ap (λ (z : FunctionV). length (function_rows z)) at in
      let pl = function_places t a (b ∷ ms) ls (λ x y. l x (from x y)) in
      let mp = members_places all j k in
      let sp = gather_spread (results all) (start_gathering h) (member_places all) n in
      let al = length_map as_attribute g.entries in
      let an = append-nil (map as_attribute g.entries) in
      let al' = ap (λ (ps : List PlaceV). length ps) an in
      let at_places : (z : FunctionV) → z ≡ fn → places_of (function_rows z) + terminal_places z.blocks + length z.params + length z.context + (suc (length (map as_attribute g.entries ++ []))) ≤ 4 + c.elements + 3 * (c.attributes + c.children) = λ z ez. subst (λ (y : FunctionV). places_of (function_rows y) + terminal_places y.blocks + length y.params + length y.context + (suc (length (map as_attribute g.entries ++ []))) ≤ 4 + c.elements + 3 * (c.attributes + c.children)) (sym ez) (omega arith) in
      record {
        identifiers = omega arith;
        used_rows = omega arith;
        blocks = omega arith;
        functions = omega arith;
        numbers = omega arith;
        places = at_places (appended_by h (outcome t g.entries a (b ∷ ms) (Some ls))) at;
      }

  pub group_cost : GroupCost h (process_jsx_group type gs all h) c
  group_cost = close_ways (λ o. GroupCost h o c) type gs a b ms h
      (λ _. quiet_cost h h c nothing (quiet_refl h) (omega arith))
      (λ _ _. let s = collect_size h all in quiet_cost h g.hir c nothing (collect_quiet h all) (omega arith))
      (λ _ n. emit_ways (λ o. GroupCost h o c) gs a (b ∷ ms) g.hir g.entries none_cost (λ ls le from. some_cost ls n le from))
