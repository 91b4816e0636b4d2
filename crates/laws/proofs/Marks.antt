-- How far the tag mark rises: by the tags taken, and by the names that they passed over.
use Rattle.std.proofs.Common.{◌≡◌, ℕ, zero, suc, ◌+◌, ◌-◌, ◌<◌, ◌≤◌, true, false, List, [], ◌∷◌, ◌++◌, map, length, get_or, sym, refl, ap, ◌∙◌, subst, inl, inr, arith, length-append}
use Rattle.std.proofs.lemmas.Bool.{or_cases, or_left, or_right, or_from, both_ways}
use Rattle.rules.specs.Lists.{changed, Lists, here, there}
use Rattle.rules.specs.Views.{Bytes, InstructionV, NameV, absent, named, promoted, IdentifierV, Hir, with_identifiers, write}
use Rattle.rules.specs.Names.{same_bytes, borne, temporary, tag_name, names_of, known, next_tag}
use Rattle.rules.specs.Props.{no_identifier, promote, fresh, collect_props}
use Rattle.rules.specs.Emit.{outline_function, Report, nothing, add, prepare, emit, process_jsx_group}
use Rattle.rules.specs.Eliminations.{Meaning}
use Rattle.rules.specs.Outline.{outline_jsx_impl}
use Rattle.rules.specs.Drawn.{FewBorne}
use Rattle.rules.proofs.Membership.{lists_none, lists_head, lists_split}
use Rattle.rules.proofs.Naming.{apart_bytes, Apart, AllBorne, pigeons, tag_same, names_length, borne-++}
use Rattle.laws.proofs.Ways.{promoting, promote_ways, close_ways, emit_ways}
use Rattle.laws.proofs.Groups.{collect_on, emit_on}
use Rattle.laws.proofs.Onward.{walked_on}
use Rattle.laws.proofs.Staying.{tag_above}
use Rattle.laws.proofs.Reports.{collect_quiet, prepare_quiet}
use Rattle.laws.proofs.Naming.{passed_tags, walk_few_borne}

-- What was known stays known.

abbrev Knows : Hir → Hir → Type 0
Knows a b = (n : Bytes) → known a n ≡ true → known b n ≡ true

-- the names of one more identifier
names_cons : (n : Bytes) (i : IdentifierV) (is js : List IdentifierV) → (borne n (names_of is) ≡ true → borne n (names_of js) ≡ true) → borne n (names_of (i ∷ is)) ≡ true → borne n (names_of (i ∷ js)) ≡ true
names_cons n i is js f = elim i.name as (λ k. borne n (elim k as (λ _. List Bytes) [ absent ↦ names_of is | named m ↦ m ∷ names_of is | promoted m ↦ m ∷ names_of is ]) ≡ true → borne n (elim k as (λ _. List Bytes) [ absent ↦ names_of js | named m ↦ m ∷ names_of js | promoted m ↦ m ∷ names_of js ]) ≡ true) [
  | absent ↦ f
  | named m ↦ λ h. elim (or_cases (same_bytes n m) (borne n (names_of is)) h) [ inl e ↦ or_left (same_bytes n m) (borne n (names_of js)) e | inr e ↦ or_right (same_bytes n m) (borne n (names_of js)) (f e) ]
  | promoted m ↦ λ h. elim (or_cases (same_bytes n m) (borne n (names_of is)) h) [ inl e ↦ or_left (same_bytes n m) (borne n (names_of js)) e | inr e ↦ or_right (same_bytes n m) (borne n (names_of js)) (f e) ]
]

names_promoted : (n : Bytes) (k : ℕ) (is : List IdentifierV) → (get_or is k no_identifier).name ≡ absent → borne n (names_of is) ≡ true → borne n (names_of (changed promoting k is)) ≡ true
names_promoted n zero [] e h = h
names_promoted n (suc k) [] e h = h
names_promoted n zero (i ∷ is) e h =
    let same : names_of (i ∷ is) ≡ names_of is = ap (λ (z : NameV). elim z as (λ _. List Bytes) [ absent ↦ names_of is | named m ↦ m ∷ names_of is | promoted m ↦ m ∷ names_of is ]) e in
    or_right (same_bytes n _) (borne n (names_of is)) (sym (ap (borne n) same) ∙ h)
names_promoted n (suc k) (i ∷ is) e h = names_cons n i is (changed promoting k is) (names_promoted n k is e) h

names_more : (n : Bytes) (is js : List IdentifierV) → borne n (names_of is) ≡ true → borne n (names_of (is ++ js)) ≡ true
names_more n [] js h = absurd (both_ways false refl h)
names_more n (i ∷ is) js h = names_cons n i is (is ++ js) (names_more n is js) h

known_by : (a b : Hir) → ((n : Bytes) → borne n (names_of a.identifiers) ≡ true → borne n (names_of b.identifiers) ≡ true) → ((n : Bytes) → a.bears n ≡ true → b.bears n ≡ true) → Knows a b
known_by a b f g n h = elim (or_cases (borne n (names_of a.identifiers)) (a.bears n) h) [
  | inl e ↦ or_left (borne n (names_of b.identifiers)) (b.bears n) (f n e)
  | inr e ↦ or_right (borne n (names_of b.identifiers)) (b.bears n) (g n e)
]

knows_promoted : (h : Hir) (x : ℕ) → Knows h (promote h x)
knows_promoted h x = promote_ways (Knows h) h x (λ e. known_by h (write (with_identifiers h (changed promoting x h.identifiers)) (temporary (get_or h.identifiers x no_identifier).declaration)) (λ n. names_promoted n x h.identifiers e) (λ n q. q)) (λ n q. q)

knows_fresh : (h : Hir) (n : NameV) → Knows h (fresh h n)
knows_fresh h n = known_by h (fresh h n) (λ k. names_more k h.identifiers (record { declaration = length h.identifiers; name = n } ∷ [])) (λ k q. q)

-- Numbers that rise.

abbrev pub Rising : ℕ → List ℕ → ℕ → Type 0
Rising low [] high = low ≤ high
Rising low (n ∷ ns) high = (low < n) × Rising n ns high

rising_lower : (low mid : ℕ) (ns : List ℕ) (high : ℕ) → low ≤ mid → Rising mid ns high → Rising low ns high
rising_lower low mid [] high l r = omega arith
rising_lower low mid (n ∷ ns) high l r = (let a = r.0 in omega arith, r.1)

rising-++ : (low : ℕ) (ms : List ℕ) (mid : ℕ) (ns : List ℕ) (high : ℕ) → Rising low ms mid → Rising mid ns high → Rising low (ms ++ ns) high
rising-++ low [] mid ns high p q = rising_lower low mid ns high p q
rising-++ low (m ∷ ms) mid ns high p q = (p.0, rising-++ m ms mid ns high p.1 q)

count_up : ℕ → ℕ → List ℕ
count_up zero n = []
count_up (suc k) n = n ∷ count_up k (suc n)

up_rising : (low k n high : ℕ) → low < n → n + k ≤ suc high → Rising low (count_up k n) high
unfolding count_up
up_rising low zero n high a b = omega arith
up_rising low (suc k) n high a b = (a, up_rising n k (suc n) high (omega arith) (omega arith))

up_length : (k n : ℕ) → length (count_up k n) ≡ k
unfolding count_up
up_length zero n = refl
up_length (suc k) n = ap suc (up_length k (suc n))

up_lists : (k n j : ℕ) → Lists (count_up k n) j → (n ≤ j) × (j < n + k)
unfolding count_up
up_lists zero n j l = lists_none l
up_lists (suc k) n j l = elim (lists_head l) [
  | inl e ↦ (omega arith, omega arith)
  | inr m ↦ (let q = up_lists k (suc n) j m in let a = q.0 in let b = q.1 in (omega arith, omega arith))
]

rising_apart : (low : ℕ) (ns : List ℕ) (high m : ℕ) → m ≤ low → Rising low ns high → borne (tag_name m) (map tag_name ns) ≡ false
rising_apart low [] high m l r = refl
rising_apart low (n ∷ ns) high m l r =
    let a = r.0 in
    or_from (same_bytes (tag_name m) (tag_name n)) (borne (tag_name m) (map tag_name ns)) (apart_bytes (tag_name m) (tag_name n) (λ e. let q = tag_same m n e in omega arith)) (rising_apart n ns high m (omega arith) r.1)

tags_apart : (low : ℕ) (ns : List ℕ) (high : ℕ) → Rising low ns high → Apart (map tag_name ns)
tags_apart low [] high r = tt
tags_apart low (n ∷ ns) high r = (rising_apart n ns high n (omega arith) r.1, tags_apart n ns high r.1)

all_borne : (ns : List ℕ) (names : List Bytes) → ((n : ℕ) → Lists ns n → borne (tag_name n) names ≡ true) → AllBorne (map tag_name ns) names
all_borne [] names h = tt
all_borne (n ∷ ns) names h = (h n here, all_borne ns names (λ k l. h k (there l)))

map_length : (ns : List ℕ) → length (map tag_name ns) ≡ length ns
map_length [] = refl
map_length (n ∷ ns) = ap suc (map_length ns)

-- The mark.

pub record Marked (a b : Hir) (r : Report) : Type 0 where
  pub knows : Knows a b
  pub skipped : List ℕ
  pub rising : Rising a.mark skipped b.mark
  pub borne : (n : ℕ) → Lists skipped n → known b (tag_name n) ≡ true
  pub counted : b.mark ≡ a.mark + (length skipped + (r.functions + r.abandoned))

marked_same : (a b : Hir) → Knows a b → b.mark ≡ a.mark → Marked a b nothing
marked_same a b k e = record { knows = k; skipped = []; rising = omega arith; borne = λ n l. lists_none l; counted = omega arith }

marked_then : (a b c : Hir) (r s : Report) → Marked a b r → Marked b c s → Marked a c (add r s)
marked_then a b c r s p q =
    let l = length-append p.skipped q.skipped in
    let x = p.counted in let y = q.counted in
    record {
      knows = λ n k. q.knows n (p.knows n k);
      skipped = p.skipped ++ q.skipped;
      rising = rising-++ a.mark p.skipped b.mark q.skipped c.mark p.rising q.rising;
      borne = λ n m. elim (lists_split p.skipped m) [ inl u ↦ q.knows (tag_name n) (p.borne n u) | inr u ↦ q.borne n u ];
      counted = omega arith;
    }

-- a tag passes over names that are known
marked_tag : (h g o : Hir) (r : Report) → Knows h o → Knows g o → g.mark ≡ h.mark → o.mark ≡ next_tag g → r.functions + r.abandoned ≡ 1 → Marked h o r
marked_tag h g o r k k' e n one =
    let above = tag_above g in
    let many : ℕ = next_tag g - suc g.mark in
    let l = up_length many (suc g.mark) in
    record {
      knows = k;
      skipped = count_up many (suc g.mark);
      rising = subst (λ z. Rising z (count_up many (suc g.mark)) o.mark) e (up_rising g.mark many (suc g.mark) o.mark (omega arith) (omega arith));
      borne = λ j m. (let q = up_lists many (suc g.mark) j m in let a = q.0 in let b = q.1 in k' (tag_name j) (passed_tags g j a (omega arith)));
      counted = omega arith;
    }

module _ (gs : List InstructionV) (m n : InstructionV) (ms : List InstructionV) (h : Hir) where
  abbrev all : List InstructionV
  all = m ∷ n ∷ ms

  abbrev hir : Hir
  hir = (collect_props h all).hir

  gathered_knows : Knows h hir
  gathered_knows = collect_on Knows (λ h n q. q) (λ a b c p q n k. q n (p n k)) (λ h made n q. q) knows_promoted h all

  emitted_knows : Knows hir (emit gs m (n ∷ ms) hir (collect_props h all).entries).hir
  emitted_knows = emit_on Knows (λ h n q. q) (λ a b c p q n k. q n (p n k)) (λ h made n q. q) knows_promoted (λ h n q. q) knows_fresh
      (λ h f tag. known_by h (outline_function h f tag) (λ n q. q) (λ n q. or_left (h.bears n) (same_bytes n tag) q)) gs m (n ∷ ms) hir (collect_props h all).entries

  emit_marked : Marked h (emit gs m (n ∷ ms) hir (collect_props h all).entries).hir (emit gs m (n ∷ ms) hir (collect_props h all).entries).report
  emit_marked =
      let es = (collect_props h all).entries in
      let e = (collect_quiet h all).mark in
      let p = (prepare_quiet hir es).mark in
      emit_ways (λ o. Knows hir o.hir → Marked h o.hir o.report) gs m (n ∷ ms) hir es
      (λ k. marked_tag h hir (prepare hir es).hir _ (λ x q. k x (gathered_knows x q)) k e p (omega arith))
      (λ ls _ _ k. marked_tag h hir _ _ (λ x q. k x (gathered_knows x q)) k e p (omega arith))
      emitted_knows

close_marked : (type : ℕ) (gs ms : List InstructionV) (h : Hir) → Marked h (process_jsx_group type gs ms h).hir (process_jsx_group type gs ms h).report
close_marked type gs [] h = marked_same h h (λ n q. q) refl
close_marked type gs (m ∷ []) h = marked_same h h (λ n q. q) refl
close_marked type gs (m ∷ n ∷ ms) h = close_ways (λ o. Marked h o.hir o.report) type gs m n ms h
    (λ _. marked_same h h (λ n q. q) refl)
    (λ _ _. marked_same h (collect_props h (m ∷ n ∷ ms)).hir (gathered_knows gs m n ms h) (collect_quiet h (m ∷ n ∷ ms)).mark)
    (λ _ _. emit_marked gs m n ms h)

walk_marked : (d : ℕ) (m : Meaning) (h : Hir) (f : ℕ) → Marked h (outline_jsx_impl d m h f).hir (outline_jsx_impl d m h f).report
walk_marked = walked_on Marked (λ h. marked_same h h (λ n q. q) refl) marked_then close_marked (λ h f Fn q. marked_same h _ (λ n k. k) refl)

-- no more names are passed over than are borne in the end
pub mark_below_names : (d : ℕ) (m : Meaning) (h : Hir) (f : ℕ) → FewBorne h → (outline_jsx_impl d m h f).hir.mark ≤ h.mark + ((outline_jsx_impl d m h f).report.functions + (outline_jsx_impl d m h f).report.abandoned) + (length (outline_jsx_impl d m h f).hir.identifiers + (outline_jsx_impl d m h f).hir.used_rows)
mark_below_names d m h f few =
    let o = (outline_jsx_impl d m h f).hir in
    let w = walk_marked d m h f in
    let last = walk_few_borne d m h f few in
    let names : List Bytes = names_of o.identifiers ++ last.names in
    let inside : (n : Bytes) → known o n ≡ true → borne n names ≡ true = λ n k. borne-++ n (names_of o.identifiers) last.names ∙ (elim (or_cases (borne n (names_of o.identifiers)) (o.bears n) k) [
      | inl e ↦ or_left (borne n (names_of o.identifiers)) (borne n last.names) e
      | inr e ↦ or_right (borne n (names_of o.identifiers)) (borne n last.names) (last.all n e)
    ]) in
    let p = pigeons (map tag_name w.skipped) names (tags_apart h.mark w.skipped o.mark w.rising) (all_borne w.skipped names (λ n l. inside (tag_name n) (w.borne n l))) in
    let a = map_length w.skipped in
    let b = length-append (names_of o.identifiers) last.names in
    let c = names_length o.identifiers in
    let d' = last.few in
    let e = w.counted in
    omega arith
