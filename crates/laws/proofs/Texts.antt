-- How many bytes names have, and how many a group writes.
use Rattle.std.proofs.Common.{◌≡◌, ℕ, zero, suc, ◌+◌, ◌*◌, ◌/◌, ◌%◌, ◌^◌, ◌<◌, ◌≤◌, true, false, cond, not, eqb, ltb, List, [], ◌∷◌, ◌++◌, length, get_or, refl, ap, ◌∙◌, inl, inr, pow-suc, arith, length-append}
use Rattle.std.proofs.lemmas.List.{get_or_past}
use Rattle.std.proofs.lemmas.Bool.{cases_Bool, cases_lt, ltb-false, and_parts}
use Rattle.rules.specs.Lists.{select, within, changed, here, there}
use Rattle.rules.specs.Views.{Bytes, PlaceV, InstructionV, absent, promoted, IdentifierV, Hir, role_is, results, write}
use Rattle.rules.specs.Names.{same_bytes, borne, spell, t_name, digits_of, numeral, temporary, tag_temporary, Made, renamed, generate_name, tag_name, next_tag}
use Rattle.rules.specs.Props.{OutlinedJsxAttribute, Gathering, write_changed, no_identifier, promote, gather_place, gather, start_gathering, collect_props, fresh, create_old_to_new_props_mapping}
use Rattle.rules.specs.Emit.{take_tag, prepare, Outcome, process_jsx_group}
use Rattle.rules.proofs.Steps.{pick_true, pick_false}
use Rattle.laws.specs.Staying.{identifier_at, Onward}
use Rattle.laws.specs.Ceilings.{NameCounterBelow}
use Rattle.laws.specs.Allowances.{Counts, letters_of, rows_counts}
use Rattle.laws.proofs.Ways.{gather_ways, promoting, promote_ways, close_ways, emit_ways}
use Rattle.laws.proofs.Groups.{bind_on}
use Rattle.laws.proofs.Staying.{onward_refl, onward_then, freshens_onward}
use Rattle.laws.proofs.Reports.{prepare_quiet}
use Rattle.laws.proofs.Counting.{row_yes}
use Rattle.laws.proofs.Costs.{count, count_yes, count_more, AllElements, member_places, members_counted, prepare_bounded}

-- Numerals.

digits_length : (k f n : ℕ) → n < 10 ^ suc k → length (digits_of f n) ≤ suc k
digits_length k zero n h = omega arith
digits_length k (suc f) n h = elim (cases_Bool (ltb n 10)) [
  | inl e ↦ (let x = ap (λ (l : Bytes). length l) (pick_true (ltb n 10) ((48 + n) ∷ []) (digits_of f (n / 10) ++ ((48 + n % 10) ∷ [])) e) in omega arith)
  | inr e ↦
      let x = ap (λ (l : Bytes). length l) (pick_false (ltb n 10) ((48 + n) ∷ []) (digits_of f (n / 10) ++ ((48 + n % 10) ∷ [])) e) in
      let y = length-append (digits_of f (n / 10)) ((48 + n % 10) ∷ []) in
      let big = ltb-false n 10 e in
      let go : (j : ℕ) → n < 10 ^ suc j → length (digits_of f (n / 10)) ≤ j = elim [
        | zero ↦ λ l. absurd (omega arith)
        | suc j ↦ λ l. digits_length j f (n / 10) (let p = pow-suc 10 (suc j) in omega arith)
      ] in
      let z = go k h in
      omega arith
]

pub numeral_length : (k n : ℕ) → n < 10 ^ suc k → length (numeral n) ≤ suc k
unfolding numeral
numeral_length k n h = digits_length k (suc n) n h

-- Made names.

-- what renaming gives is the name it began with, or the old name with a number that the counter passed; each try raises the counter
pub record Renamed (old name : Bytes) (c k : ℕ) (made : Made) : Type 0 where
  pub counter : made.counter ≤ c + k
  pub length_is : (w : ℕ) → length name ≤ length old + w → ((n : ℕ) → n < made.counter → length (numeral n) ≤ w) → length made.name ≤ length old + w
  pub above : c ≤ made.counter

pub renamed_bounded : (k : ℕ) (seen : List Bytes) (old name : Bytes) (c : ℕ) → Renamed old name c k (renamed k seen old name c)
renamed_bounded zero seen old name c = record { counter = omega arith; length_is = λ w l n. l; above = omega arith }
renamed_bounded (suc k) seen old name c =
    let next = renamed k seen old (old ++ numeral c) (suc c) in
    let q = renamed_bounded k seen old (old ++ numeral c) (suc c) in
    let stop : Made = record { name = name; counter = c } in
    elim (borne name seen) as (λ b. Renamed old name c (suc k) (elim b as (λ _. Made) [ true ↦ next | false ↦ stop ])) [
      | true ↦ (let qc = q.counter in let qa = q.above in record {
        counter = omega arith;
        length_is = λ w l n. q.length_is w (let x = n c qa in let y = length-append old (numeral c) in omega arith) n;
        above = omega arith;
      })
      | false ↦ record { counter = omega arith; length_is = λ w l n. l; above = omega arith }
    ]

-- Declarations of 32 bits.

abbrev pub Declared : Hir → Type 0
Declared h = (x : ℕ) → (identifier_at h x).declaration < 2 ^ 32

promoting_declaration : (k x : ℕ) (is : List IdentifierV) → (get_or (changed promoting k is) x no_identifier).declaration ≡ (get_or is x no_identifier).declaration
promoting_declaration zero x [] = refl
promoting_declaration (suc k) x [] = refl
promoting_declaration zero zero (i ∷ is) = refl
promoting_declaration zero (suc x) (i ∷ is) = refl
promoting_declaration (suc k) zero (i ∷ is) = refl
promoting_declaration (suc k) (suc x) (i ∷ is) = promoting_declaration k x is

promote_declared : (h : Hir) (x : ℕ) → Declared h → Declared (promote h x)
promote_declared h x d = promote_ways Declared h x (λ _ y. let e = promoting_declaration x y h.identifiers in let b = d y in omega arith) d

-- with fewer than 65,536 identifiers, those that are added are declared too
pub onward_declared : (a b : Hir) → Onward a b → length b.identifiers ≤ 65535 → Declared a → Declared b
onward_declared a b o l d x = elim (cases_lt x (length a.identifiers)) [
  | inl s ↦ (let e = (o.identifier x s).declaration in let q = d x in omega arith)
  | inr s ↦ elim (cases_lt x (length b.identifiers)) [
    | inl t ↦ (let e = o.fresh x s t in omega arith)
    | inr t ↦ (let e = ap (λ (i : IdentifierV). i.declaration) (get_or_past b.identifiers x no_identifier t) in omega arith)
  ]
]

-- Gathering.

abbrev pub letters : List PlaceV → ℕ
letters ps = letters_of (select (role_is 2) ps)

letters_more : (p : PlaceV) (ps : List PlaceV) → letters ps ≤ letters (p ∷ ps)
letters_more p ps = elim (role_is 2 p) as (λ b. letters ps ≤ letters_of (elim b as (λ _. List PlaceV) [ true ↦ p ∷ select (role_is 2) ps | false ↦ select (role_is 2) ps ])) [ true ↦ omega arith | false ↦ omega arith ]

letters_yes : (p : PlaceV) (ps : List PlaceV) → role_is 2 p ≡ true → letters (p ∷ ps) ≡ length (spell p.name) + letters ps
letters_yes p ps h = ap letters_of (pick_true (role_is 2 p) (p ∷ select (role_is 2) ps) (select (role_is 2) ps) h)

-- what these places may write
abbrev may_write : List PlaceV → ℕ
may_write ps = letters ps + 10 * count 2 ps + 23 * count 4 ps

-- the group's counter is below 2 ^ 32, and so no made name is longer than its old name by more than ten digits
abbrev LowCounter : Gathering → Type 0
LowCounter g = g.counter ≤ 1 + 65536 * length g.seen

made_bounded : (g : Gathering) (old : Bytes) → LowCounter g → length g.seen ≤ 65534 → ((generate_name g.seen old g.counter).counter ≤ 1 + 65536 * suc (length g.seen)) × (length (generate_name g.seen old g.counter).name ≤ length old + 10)
made_bounded g old k l =
    let q = renamed_bounded (suc (length g.seen)) g.seen old old g.counter in
    let c = q.counter in
    let few : (generate_name g.seen old g.counter).counter ≤ 1 + 65536 * suc (length g.seen) = omega arith in
    (few, q.length_is 10 (omega arith) (λ x s. numeral_length 9 x (let big : 10 ^ 10 ≡ 10000000000 = refl in omega arith)))

record CountedUp (g g' : Gathering) (p : PlaceV) (ps : List PlaceV) : Type 0 where
  pub counter : LowCounter g'
  pub seen : length g'.seen + count 2 ps + count 4 ps ≤ length g.seen + count 2 (p ∷ ps) + count 4 (p ∷ ps)

place_counted : (members : List ℕ) (g : Gathering) (p : PlaceV) (ps : List PlaceV) → LowCounter g → length g.seen + count 2 (p ∷ ps) + count 4 (p ∷ ps) ≤ 65535 → CountedUp g (gather_place members g p) p ps
place_counted members g p ps n room =
    let m₂ = count_more 2 p ps in
    let m₄ = count_more 4 p ps in
    gather_ways (λ g'. CountedUp g g' p ps) members g p
    (λ _. record { counter = n; seen = omega arith })
    (λ _ r. let y = count_yes 2 p ps r in record { counter = (made_bounded g (spell p.name) n (omega arith)).0; seen = omega arith })
    (λ _ _ _. record { counter = n; seen = omega arith })
    (λ _ _ _ c. let y = count_yes 4 p ps (and_parts (role_is 4 p) (not (within p.identifier members)) c).0 in record { counter = (made_bounded g t_name n (omega arith)).0; seen = omega arith })
    (λ _ _ _ _. record { counter = n; seen = omega arith })

gather_counted : (members : List ℕ) (g : Gathering) (ps : List PlaceV) → LowCounter g → length g.seen + count 2 ps + count 4 ps ≤ 65535 → LowCounter (gather members g ps) × (length (gather members g ps).seen ≤ length g.seen + count 2 ps + count 4 ps)
gather_counted members g [] n room = (n, omega arith)
gather_counted members g (p ∷ ps) n room =
    let w = place_counted members g p ps n room in
    let s = w.seen in
    let q = gather_counted members (gather_place members g p) ps w.counter (omega arith) in
    let q₁ = q.1 in
    (q.0, omega arith)

pub name_counter_below : NameCounterBelow
name_counter_below h members ps room =
    let q = gather_counted members (start_gathering h) ps (omega arith) (omega arith) in
    let c = q.0 in let s = q.1 in
    omega arith

changed_text : (h : Hir) (old new : Bytes) → (Declared h → Declared (write_changed h old new)) × (length (write_changed h old new).text ≤ length h.text + length new)
changed_text h old new =
    let l = length-append h.text new in
    elim (same_bytes old new) as (λ t. (Declared h → Declared (elim t as (λ _. Hir) [ true ↦ h | false ↦ write h new ])) × (length (elim t as (λ _. Hir) [ true ↦ h | false ↦ write h new ]).text ≤ length h.text + length new)) [
      | true ↦ ((λ d. d), omega arith)
      | false ↦ ((λ d. d), omega arith)
    ]

promote_text : (h : Hir) (x : ℕ) → Declared h → length (promote h x).text ≤ length h.text + 12
promote_text h x d = promote_ways (λ h'. length h'.text ≤ length h.text + 12) h x
    (λ _.
    let i = identifier_at h x in
    let l = length-append h.text (temporary i.declaration) in
    let b = d x in
    let n = numeral_length 9 i.declaration (let big : 10 ^ 10 ≡ 10000000000 = refl in omega arith) in
    omega arith)
    (omega arith)

record Wrote (g g' : Gathering) (p : PlaceV) (ps : List PlaceV) : Type 0 where
  pub declared : Declared g'.hir
  pub text : length g'.hir.text + may_write ps ≤ length g.hir.text + may_write (p ∷ ps)

place_wrote : (members : List ℕ) (g : Gathering) (p : PlaceV) (ps : List PlaceV) → LowCounter g → Declared g.hir → length g.seen + count 2 (p ∷ ps) + count 4 (p ∷ ps) ≤ 65535 → Wrote g (gather_place members g p) p ps
place_wrote members g p ps n d room =
    let m₂ = count_more 2 p ps in
    let m₄ = count_more 4 p ps in
    let ml = letters_more p ps in
    gather_ways (λ g'. Wrote g g' p ps) members g p
    (λ _. record { declared = d; text = omega arith })
    (λ _ r.
    let y = count_yes 2 p ps r in
    let z = letters_yes p ps r in
    let old = spell p.name in
    let b = (made_bounded g old n (omega arith)).1 in
    let c = changed_text g.hir old (generate_name g.seen old g.counter).name in
    let c₁ = c.1 in
    record { declared = c.0 d; text = omega arith })
    (λ _ _ _. record { declared = d; text = omega arith })
    (λ _ _ _ c.
    let y = count_yes 4 p ps (and_parts (role_is 4 p) (not (within p.identifier members)) c).0 in
    let b = (made_bounded g t_name n (omega arith)).1 in
    let q = promote_text g.hir p.identifier d in
    let l = length-append (promote g.hir p.identifier).text (generate_name g.seen t_name g.counter).name in
    record { declared = promote_declared g.hir p.identifier d; text = omega arith })
    (λ _ _ _ _. record { declared = d; text = omega arith })

gather_wrote : (members : List ℕ) (g : Gathering) (ps : List PlaceV) → LowCounter g → Declared g.hir → length g.seen + count 2 ps + count 4 ps ≤ 65535 → length (gather members g ps).hir.text ≤ length g.hir.text + may_write ps
gather_wrote members g [] n d room = omega arith
gather_wrote members g (p ∷ ps) n d room =
    let c = place_counted members g p ps n room in
    let w = place_wrote members g p ps n d room in
    let s = c.seen in let t = w.text in
    let q = gather_wrote members (gather_place members g p) ps c.counter w.declared (omega arith) in
    omega arith

letters-++ : (ps qs : List PlaceV) → letters (ps ++ qs) ≡ letters ps + letters qs
letters-++ [] qs = omega arith
letters-++ (p ∷ ps) qs =
    let q = letters-++ ps qs in
    elim (role_is 2 p) as (λ b. letters_of (elim b as (λ _. List PlaceV) [ true ↦ p ∷ select (role_is 2) (ps ++ qs) | false ↦ select (role_is 2) (ps ++ qs) ]) ≡ letters_of (elim b as (λ _. List PlaceV) [ true ↦ p ∷ select (role_is 2) ps | false ↦ select (role_is 2) ps ]) + letters qs) [ true ↦ omega arith | false ↦ omega arith ]

members_letters : (ms : List InstructionV) → AllElements ms → letters (member_places ms) ≡ (rows_counts ms).letters
members_letters [] h = refl
members_letters (m ∷ ms) h =
    let e = ap (λ (c : Counts). c.letters) (row_yes m (h m here)) in
    let q = members_letters ms (λ i l. h i (there l)) in
    let x = letters-++ m.places (member_places ms) in
    omega arith

pub collect_text : (h : Hir) (ms : List InstructionV) → AllElements ms → Declared h → (rows_counts ms).attributes + (rows_counts ms).children ≤ 65535 → length (collect_props h ms).hir.text ≤ length h.text + ((rows_counts ms).letters + 10 * (rows_counts ms).attributes + 23 * (rows_counts ms).children)
collect_text h ms j d room =
    let q = members_counted ms j in
    let a = q.attributes in let c = q.children in
    let l = members_letters ms j in
    let w = gather_wrote (results ms) (start_gathering h) (member_places ms) (omega arith) d (omega arith) in
    omega arith

-- Emission.

tag_length : (n : ℕ) → n < 10 ^ 20 → length (tag_name n) ≤ 25
tag_length n h =
    let q = numeral_length 19 n h in
    elim (eqb n 1) as (λ b. suc (suc (suc (suc (suc (length (cond b [] (numeral n))))))) ≤ 25) [ true ↦ omega arith | false ↦ omega arith ]

abbrev SameText : Hir → Hir → Type 0
SameText a b = b.text ≡ a.text

pub prepare_text : (h : Hir) (es : List OutlinedJsxAttribute) → length (prepare h es).hir.identifiers ≤ 65535 → next_tag h < 10 ^ 20 → length (prepare h es).hir.text ≤ length h.text + 39
prepare_text h es small tag =
    let load = length h.identifiers in
    let h₁ = write (fresh (take_tag h) (promoted (tag_temporary load))) (tag_temporary load) in
    let bound = create_old_to_new_props_mapping h₁ es in
    let param = length bound.hir.identifiers in
    let kept : bound.hir.text ≡ h₁.text = bind_on SameText (λ a b c p q. q ∙ p) (λ h n. refl) h₁ (record { hir = h₁; table = [] }) es refl in
    let kept' = ap (λ (l : Bytes). length l) kept in
    let on = (bind_on Onward onward_then freshens_onward h₁ (record { hir = h₁; table = [] }) es (onward_refl h₁)).identifiers in
    let l₁ = length-append h.text (tag_name (next_tag h)) in
    let l₂ = length-append (h.text ++ tag_name (next_tag h)) (tag_temporary load) in
    let l₃ = length-append bound.hir.text (temporary param) in
    let i₁ = length-append h.identifiers (record { declaration = load; name = promoted (tag_temporary load) } ∷ []) in
    let pb = (prepare_bounded h es).param in
    let big : 10 ^ 5 ≡ 100000 = refl in
    let n₁ = tag_length (next_tag h) tag in
    let n₂ = numeral_length 4 load (omega arith) in
    let n₃ = numeral_length 4 param (omega arith) in
    omega arith

-- A whole group.

pub group_text : (type : ℕ) (gs : List InstructionV) (a b : InstructionV) (ms : List InstructionV) (h : Hir) → AllElements (a ∷ b ∷ ms) → Declared h → (rows_counts (a ∷ b ∷ ms)).attributes + (rows_counts (a ∷ b ∷ ms)).children ≤ 65535
    → length (process_jsx_group type gs (a ∷ b ∷ ms) h).hir.identifiers ≤ 65535 → (process_jsx_group type gs (a ∷ b ∷ ms) h).hir.mark < 10 ^ 20
    → length (process_jsx_group type gs (a ∷ b ∷ ms) h).hir.text ≤ length h.text + ((rows_counts (a ∷ b ∷ ms)).letters + 10 * (rows_counts (a ∷ b ∷ ms)).attributes + 23 * (rows_counts (a ∷ b ∷ ms)).children + 39)
group_text type gs a b ms h j d room =
    let all = a ∷ b ∷ ms in
    let g = collect_props h all in
    let ct = collect_text h all j d room in
    let pm = (prepare_quiet g.hir g.entries).mark in
    let P : Outcome → Type 0 = λ o. length o.hir.identifiers ≤ 65535 → o.hir.mark < 10 ^ 20 → length o.hir.text ≤ length h.text + ((rows_counts all).letters + 10 * (rows_counts all).attributes + 23 * (rows_counts all).children + 39) in
    close_ways P type gs a b ms h (λ _ i m. omega arith) (λ _ _ i m. omega arith)
    (λ _ _. emit_ways P gs a (b ∷ ms) g.hir g.entries
    (λ i m. let q = prepare_text g.hir g.entries i (omega arith) in omega arith)
    (λ ls _ _ i m.
    let t = prepare g.hir g.entries in
    let l = length-append t.hir.identifiers (record { declaration = length t.hir.identifiers; name = absent } ∷ []) in
    let q = prepare_text g.hir g.entries (omega arith) (omega arith) in
    omega arith))
