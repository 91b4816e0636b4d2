-- The ways through one step of the rules, each with what its tests said.
use Rattle.std.proofs.Common.{◌≡◌, ℕ, suc, Bool, true, false, not, ◌&&◌, eqb, ◌⊎◌, List, [], ◌∷◌, length, get_or, Some, None, Option, sym, refl, ap, ◌∙◌, subst, ap₂, inl, inr}
use Rattle.std.proofs.lemmas.Bool.{cases_Bool}
use Rattle.rules.proofs.Membership.{lists_head}
use Rattle.rules.proofs.Steps.{pick_true, pick_false}
use Rattle.rules.specs.Lists.{within, changed, Lists, here, there}
use Rattle.rules.specs.Views.{PlaceV, InstructionV, absent, named, promoted, IdentifierV, Hir, role_is, is_global, is_function, is_element, with_identifiers, write}
use Rattle.rules.specs.Names.{temporary}
use Rattle.rules.specs.Props.{OutlinedJsxAttribute, Gathering, no_identifier, promote, enter_attribute, enter_child, end, gather_place, collect_props, fresh, is_key_entry, put, Mapping, bind_entries}
use Rattle.rules.specs.Emit.{find_global, emit_load_globals, tag_places, prepare, outcome, Outcome, done, emit, process_jsx_group, add}
use Rattle.rules.specs.Outline.{Walk, children, process_and_outline_jsx, joined, passed}
use Rattle.laws.specs.Taking.{Price, closing, passing}

abbrev pub outer_child : List ℕ → PlaceV → Bool
outer_child members p = role_is 4 p && not (within p.identifier members)

pub gather_ways : (P : Gathering → Type 0) (members : List ℕ) (g : Gathering) (p : PlaceV)
    → (g.ended ≡ true → P g)
    → (g.ended ≡ false → role_is 2 p ≡ true → P (enter_attribute g p))
    → (g.ended ≡ false → role_is 2 p ≡ false → role_is 3 p ≡ true → P (end g))
    → (g.ended ≡ false → role_is 2 p ≡ false → role_is 3 p ≡ false → outer_child members p ≡ true → P (enter_child g p))
    → (g.ended ≡ false → role_is 2 p ≡ false → role_is 3 p ≡ false → outer_child members p ≡ false → P g)
    → P (gather_place members g p)
gather_ways P members g p a b c d e =
    (elim g.ended as (λ t. g.ended ≡ t → P (elim t [ true ↦ g | false ↦ elim (role_is 2 p) [ true ↦ enter_attribute g p | false ↦ elim (role_is 3 p) [ true ↦ end g | false ↦ elim (outer_child members p) [ true ↦ enter_child g p | false ↦ g ] ] ] ])) [
      | true ↦ a
      | false ↦ λ n. (elim (role_is 2 p) as (λ t. role_is 2 p ≡ t → P (elim t [ true ↦ enter_attribute g p | false ↦ elim (role_is 3 p) [ true ↦ end g | false ↦ elim (outer_child members p) [ true ↦ enter_child g p | false ↦ g ] ] ])) [
        | true ↦ b n
        | false ↦ λ two. (elim (role_is 3 p) as (λ t. role_is 3 p ≡ t → P (elim t [ true ↦ end g | false ↦ elim (outer_child members p) [ true ↦ enter_child g p | false ↦ g ] ])) [
          | true ↦ c n two
          | false ↦ λ three. (elim (outer_child members p) as (λ t. outer_child members p ≡ t → P (elim t [ true ↦ enter_child g p | false ↦ g ])) [
            | true ↦ d n two three
            | false ↦ e n two three
          ]) refl
        ]) refl
      ]) refl
    ]) refl

-- an identifier promoted to #t and its declaration number
abbrev pub promoting : IdentifierV → IdentifierV
promoting j = record { declaration = j.declaration; name = promoted (temporary j.declaration) }

-- Promotion is a change of one identifier and a name written, or nothing.
pub promote_ways : (P : Hir → Type 0) (h : Hir) (x : ℕ) → ((get_or h.identifiers x no_identifier).name ≡ absent → P (write (with_identifiers h (changed promoting x h.identifiers)) (temporary (get_or h.identifiers x no_identifier).declaration))) → P h → P (promote h x)
promote_ways P h x a b =
    let i : IdentifierV = get_or h.identifiers x no_identifier in
    (elim i.name as (λ n. i.name ≡ n → P (elim n as (λ _. Hir) [ absent ↦ write (with_identifiers h (changed promoting x h.identifiers)) (temporary i.declaration) | named k ↦ h | promoted k ↦ h ])) [
      | absent ↦ a
      | named k ↦ λ _. b
      | promoted k ↦ λ _. b
    ]) refl

-- the store and the table after an entry is bound
abbrev pub bound_next : Mapping → OutlinedJsxAttribute → Mapping
bound_next m e = record { hir = fresh m.hir (named e.new_name); table = put (record { old = e.place.identifier; key = e.new_name; fresh = length m.hir.identifiers }) m.table }

pub bind_ways : (P : Mapping → Type 0) (m : Mapping) (e : OutlinedJsxAttribute) (es : List OutlinedJsxAttribute)
    → (is_key_entry e ≡ true → P (bind_entries m es))
    → (is_key_entry e ≡ false → P (bind_entries (bound_next m e) es))
    → P (bind_entries m (e ∷ es))
bind_ways P m e es a b = (elim (is_key_entry e) as (λ t. is_key_entry e ≡ t → P (elim t as (λ _. Mapping) [ true ↦ bind_entries m es | false ↦ bind_entries (bound_next m e) es ])) [ true ↦ a | false ↦ b ]) refl

pub close_ways : (P : Outcome → Type 0) (type : ℕ) (gs : List InstructionV) (m n : InstructionV) (ms : List InstructionV) (h : Hir)
    → (eqb type 0 ≡ true → P (done h))
    → (eqb type 0 ≡ false → (collect_props h (m ∷ n ∷ ms)).ended ≡ true → P (done (collect_props h (m ∷ n ∷ ms)).hir))
    → (eqb type 0 ≡ false → (collect_props h (m ∷ n ∷ ms)).ended ≡ false → P (emit gs m (n ∷ ms) (collect_props h (m ∷ n ∷ ms)).hir (collect_props h (m ∷ n ∷ ms)).entries))
    → P (process_jsx_group type gs (m ∷ n ∷ ms) h)
close_ways P type gs m n ms h a b c =
    let g : Gathering = collect_props h (m ∷ n ∷ ms) in
    let o : Outcome = emit gs m (n ∷ ms) g.hir g.entries in
    (elim (eqb type 0) as (λ t. eqb type 0 ≡ t → P (elim t as (λ _. Outcome) [ true ↦ done h | false ↦ elim g.ended as (λ _. Outcome) [ true ↦ done g.hir | false ↦ o ] ])) [
      | true ↦ a
      | false ↦ λ p. (elim g.ended as (λ t. g.ended ≡ t → P (elim t as (λ _. Outcome) [ true ↦ done g.hir | false ↦ o ])) [
        | true ↦ b p
        | false ↦ c p
      ]) refl
    ]) refl

-- the walk after a load, and after an inner function
abbrev pub with_load : Walk → InstructionV → Walk
with_load w i = record { hir = w.hir; globals = i ∷ w.globals; members = w.members; rewrites = w.rewrites; report = w.report }

abbrev pub with_outcome : Walk → Outcome → Walk
with_outcome w o = record { hir = o.hir; globals = w.globals; members = w.members; rewrites = w.rewrites; report = add w.report o.report }

pub passed_ways : (P : Walk → Type 0) (inner : Hir → ℕ → Outcome) (type : ℕ) (w : Walk) (i : InstructionV)
    → (is_global i ≡ true → P (with_load w i))
    → (is_global i ≡ false → is_function i ≡ true → P (with_outcome w (inner w.hir i.function)))
    → (is_global i ≡ false → is_function i ≡ false → is_element i ≡ true → within i.result.identifier (children w.members) ≡ true → P (joined w i))
    → (is_global i ≡ false → is_function i ≡ false → is_element i ≡ true → within i.result.identifier (children w.members) ≡ false → P (joined (process_and_outline_jsx type w) i))
    → (is_global i ≡ false → is_function i ≡ false → is_element i ≡ false → P w)
    → P (passed inner type w i)
passed_ways P inner type w i a b c d e =
    let at_child : Bool → Walk = λ t. elim t as (λ _. Walk) [ true ↦ joined w i | false ↦ joined (process_and_outline_jsx type w) i ] in
    let at_element : Bool → Walk = λ t. elim t as (λ _. Walk) [ true ↦ at_child (within i.result.identifier (children w.members)) | false ↦ w ] in
    let at_function : Bool → Walk = λ t. elim t as (λ _. Walk) [ true ↦ with_outcome w (inner w.hir i.function) | false ↦ at_element (is_element i) ] in
    (elim (is_global i) as (λ t. is_global i ≡ t → P (elim t as (λ _. Walk) [ true ↦ with_load w i | false ↦ at_function (is_function i) ])) [
      | true ↦ a
      | false ↦ λ p. (elim (is_function i) as (λ t. is_function i ≡ t → P (at_function t)) [
        | true ↦ b p
        | false ↦ λ q. (elim (is_element i) as (λ t. is_element i ≡ t → P (at_element t)) [
          | true ↦ λ r. (elim (within i.result.identifier (children w.members)) as (λ t. within i.result.identifier (children w.members) ≡ t → P (at_child t)) [
            | true ↦ c p q r
            | false ↦ d p q r
          ]) refl
          | false ↦ e p q
        ]) refl
      ]) refl
    ]) refl

-- the same, with what passing the row takes
pub passing_ways : (P : Walk → ℕ → Type 0) (p : Price) (inner : Hir → ℕ → Outcome) (inside : Hir → ℕ → ℕ) (type : ℕ) (w : Walk) (i : InstructionV)
    → (is_global i ≡ true → P (with_load w i) 0)
    → (is_global i ≡ false → is_function i ≡ true → P (with_outcome w (inner w.hir i.function)) (inside w.hir i.function))
    → (is_global i ≡ false → is_function i ≡ false → is_element i ≡ true → within i.result.identifier (children w.members) ≡ true → P (joined w i) 0)
    → (is_global i ≡ false → is_function i ≡ false → is_element i ≡ true → within i.result.identifier (children w.members) ≡ false → P (joined (process_and_outline_jsx type w) i) (closing p type w))
    → (is_global i ≡ false → is_function i ≡ false → is_element i ≡ false → P w 0)
    → P (passed inner type w i) (passing p inside type w i)
passing_ways P p inner inside type w i a b c d e =
    let child : Bool = within i.result.identifier (children w.members) in
    let at_child : Bool → Walk = λ t. elim t as (λ _. Walk) [ true ↦ joined w i | false ↦ joined (process_and_outline_jsx type w) i ] in
    let at_element : Bool → Walk = λ t. elim t as (λ _. Walk) [ true ↦ at_child child | false ↦ w ] in
    let at_function : Bool → Walk = λ t. elim t as (λ _. Walk) [ true ↦ with_outcome w (inner w.hir i.function) | false ↦ at_element (is_element i) ] in
    let by_child : Bool → ℕ = λ t. elim t as (λ _. ℕ) [ true ↦ 0 | false ↦ closing p type w ] in
    let by_element : Bool → ℕ = λ t. elim t as (λ _. ℕ) [ true ↦ by_child child | false ↦ 0 ] in
    let by_function : Bool → ℕ = λ t. elim t as (λ _. ℕ) [ true ↦ inside w.hir i.function | false ↦ by_element (is_element i) ] in
    (elim (is_global i) as (λ t. is_global i ≡ t → P (elim t as (λ _. Walk) [ true ↦ with_load w i | false ↦ at_function (is_function i) ]) (elim t as (λ _. ℕ) [ true ↦ 0 | false ↦ by_function (is_function i) ])) [
      | true ↦ a
      | false ↦ λ x. (elim (is_function i) as (λ t. is_function i ≡ t → P (at_function t) (by_function t)) [
        | true ↦ b x
        | false ↦ λ y. (elim (is_element i) as (λ t. is_element i ≡ t → P (at_element t) (by_element t)) [
          | true ↦ λ z. (elim child as (λ t. child ≡ t → P (at_child t) (by_child t)) [ true ↦ c x y z | false ↦ d x y z ]) refl
          | false ↦ e x y
        ]) refl
      ]) refl
    ]) refl

-- the load of an identifier is one of the globals
find_ways : (gs : List InstructionV) (x : ℕ) → (find_global gs x ≡ None) ⊎ ((g : InstructionV) × (find_global gs x ≡ Some g) × Lists gs g)
find_ways [] x = inl refl
find_ways (g ∷ gs) x = elim (cases_Bool (eqb g.result.identifier x)) [
  | inl e ↦ inr (g, pick_true (eqb g.result.identifier x) (Some g) (find_global gs x) e, here)
  | inr e ↦ (let p = pick_false (eqb g.result.identifier x) (Some g) (find_global gs x) e in elim (find_ways gs x) [ inl q ↦ inl (p ∙ q) | inr q ↦ inr (q.0, p ∙ q.1, there q.2) ])
]

load_ways : (gs : List InstructionV) (ps : List PlaceV) → (emit_load_globals gs ps ≡ None) ⊎ ((ls : List InstructionV) × (emit_load_globals gs ps ≡ Some ls) × (length ls ≡ length ps) × ((i : InstructionV) → Lists ls i → Lists gs i))
load_ways gs [] = inr ([], refl, refl, λ i l. elim l [ ])
load_ways gs (p ∷ ps) =
    let with_rest : Option InstructionV → Option (List InstructionV) → Option (List InstructionV) = λ o t. elim o [ None ↦ None | Some g ↦ elim t [ None ↦ None | Some ls ↦ Some (g ∷ ls) ] ] in
    elim (find_ways gs p.identifier) [
      | inl e ↦ inl (ap (λ (o : Option InstructionV). with_rest o (emit_load_globals gs ps)) e)
      | inr q ↦ elim (load_ways gs ps) [
        | inl e ↦ inl (ap₂ with_rest q.1 e)
        | inr t ↦ inr (q.0 ∷ t.0, ap₂ with_rest q.1 t.1, ap suc t.2, λ i l. elim (lists_head l) [ inl s ↦ subst (λ z. Lists gs z) (sym s) q.2 | inr k ↦ t.3 i k ])
      ]
    ]

-- a tag load for each tag place, all of them globals; or the tag is abandoned
pub emit_ways : (P : Outcome → Type 0) (gs : List InstructionV) (m : InstructionV) (ms : List InstructionV) (h : Hir) (es : List OutlinedJsxAttribute)
    → P (outcome (prepare h es) es m ms None)
    → ((ls : List InstructionV) → length ls ≡ length (tag_places (m ∷ ms)) → ((i : InstructionV) → Lists ls i → Lists gs i) → P (outcome (prepare h es) es m ms (Some ls)))
    → P (emit gs m ms h es)
emit_ways P gs m ms h es a b = elim (load_ways gs (tag_places (m ∷ ms))) [
  | inl e ↦ subst (λ (o : Option (List InstructionV)). P (outcome (prepare h es) es m ms o)) (sym e) a
  | inr q ↦ subst (λ (o : Option (List InstructionV)). P (outcome (prepare h es) es m ms o)) (sym q.1) (b q.0 q.2 q.3)
]
