-- What every group and every new list of a walk keeps, the accepted walk keeps, and it stays within its counts.
use Rattle.std.proofs.Common.{◌≡◌, ℕ, zero, suc, ◌+◌, ◌*◌, ◌/◌, ◌<◌, ◌≤◌, true, false, eqb, List, [], ◌∷◌, ◌++◌, length, drop, Some, None, Option, sym, refl, ap, ◌∙◌, subst, ap₂, inl, inr, append_assoc, arith, length-append}
use Rattle.std.proofs.lemmas.Bool.{or_cases, or_right, both_ways, eqb-true, cases_Bool}
use Rattle.rules.specs.Lists.{Sublist, ends, keeps, skips, within, gathered, changed, backwards, Lists, here, there, Distinct}
use Rattle.rules.specs.Views.{still_read, InstructionV, BlockV, FunctionV, Hir, is_element, is_global, is_function, function_at, no_function, block_rows, rows_at, with_rows, with_blocks, with_list}
use Rattle.rules.specs.Props.{OutlinedJsxAttribute, collect_props}
use Rattle.rules.specs.Emit.{Rewrite, Report, nothing, add, done, Prepared, prepare, outcome, emit_load_globals, tag_places, process_jsx_group}
use Rattle.rules.specs.Eliminations.{listing, Meaning, Lawful, ThinnedAll, no_block, block, eliminated}
use Rattle.rules.specs.Outline.{Walk, rewritten, process_and_outline_jsx, joined, passed, walk_back, start_block, finished, walk_block, walk_blocks, outline_jsx_impl}
use Rattle.rules.specs.Drawn.{inner, inner_of, on_walk}
use Rattle.rules.proofs.Blocks.{changed_there, listing_length, later_changed, later_thinned, later_split}
use Rattle.rules.proofs.Reached.{same_walk}
use Rattle.rules.proofs.Membership.{out_if, In, Out, in_out, in_left, in_right, in_head, out_parts, distinct_left, distinct_right, distinct_apart, gathered-++, lists_none, lists_head, lists_left, lists_right, lists_split}
use Rattle.rules.proofs.Positions.{backwards_twice, length_changed, at_changed, at_other}
use Rattle.rules.proofs.Steps.{pick_true, pick_false}
use Rattle.rules.proofs.Sublists.{sub_refl, sub_empty, sub_front, sub-++, sub_in, sub_out, sub_distinct, sub_gathered, append_none, thinned_sub, sub_trans}
use Rattle.rules.proofs.Thinning.{thinned_block}
use Rattle.laws.specs.Allowances.{rest_counts, open_counts, ahead_counts, Counts, no_counts, plus, row_counts, rows_counts, block_counts, blocks_counts, outside_components, function_counts, tally, walk_counts}
use Rattle.laws.specs.Taking.{closing, Price, passing, going_back, relisting, block_takes, blocks_take, takes}
use Rattle.laws.proofs.Onward.{add_none}
use Rattle.laws.proofs.Staying.{close_onward, close_keeps}
use Rattle.laws.proofs.Ways.{close_ways, with_load, with_outcome, passed_ways, passing_ways}
use Rattle.laws.proofs.Counting.{Le, le_refl, le_same, le_trans, le_plus, le_none, pair, new_list, row_yes, rows_backwards, block_sub, block_share, block_listed, outside_le, outside_two, tally-++, tally_sub}

tally_same : (a b : ℕ → Counts) (xs : List ℕ) → ((x : ℕ) → In x xs → a x ≡ b x) → tally a xs ≡ tally b xs
tally_same a b [] h = refl
tally_same a b (x ∷ xs) h = ap₂ plus (h x (in_head x xs)) (tally_same a b xs (λ y q. h y (or_right (eqb y x) (within y xs) q)))

-- what is reached rests on the functions that are reached
gathered_same : {A : Type 0} (a b : ℕ → List A) (ys : List ℕ) → ((y : ℕ) → In y ys → a y ≡ b y) → gathered a ys ≡ gathered b ys
gathered_same a b [] h = refl
gathered_same a b (y ∷ ys) h = ap₂ (λ l n. l ++ n) (h y (in_head y ys)) (gathered_same a b ys (λ z q. h z (or_right (eqb z y) (within z ys) q)))

in_gather : (a : ℕ → List ℕ) (x y : ℕ) (ys : List ℕ) → In y ys → In x (a y) → In x (gathered a ys)
in_gather a x y [] h k = absurd (both_ways false refl h)
in_gather a x y (z ∷ ys) h k = elim (or_cases (eqb y z) (within y ys) h) [
  | inl e ↦ in_left x (a z) (gathered a ys) (subst (λ n. In x (a n)) (eqb-true y z e) k)
  | inr e ↦ in_right x (a z) (gathered a ys) (in_gather a x y ys e k)
]

-- The blocks that are still to be walked.

later_counts : (k : ℕ) (bs : List BlockV) → k < length bs → blocks_counts (drop k bs) ≡ plus (block_counts (block_rows bs k)) (blocks_counts (drop (suc k) bs))
later_counts k [] h = absurd (omega arith)
later_counts zero (b ∷ bs) h = refl
later_counts (suc k) (b ∷ bs) h = later_counts k bs (omega arith)

counts_changed : (rows : List InstructionV) (k : ℕ) (bs : List BlockV) → blocks_counts (drop (suc k) (changed (λ b. with_rows b rows) k bs)) ≡ blocks_counts (drop (suc k) bs)
counts_changed rows zero [] = refl
counts_changed rows (suc k) [] = refl
counts_changed rows zero (b ∷ bs) = refl
counts_changed rows (suc k) (b ∷ bs) = counts_changed rows k bs

counts_thinned : {read : List ℕ} {bs : List BlockV} {ls : List (List InstructionV)} (k : ℕ) → ThinnedAll read bs ls → Le (blocks_counts (drop k (listing bs ls))) (blocks_counts (drop k bs))
counts_thinned zero no_block = le_refl no_counts
counts_thinned zero (block {b = b} {js = js} {bs = bs} {ls = ls} t ts) = le_plus (block_counts js) (block_counts b.rows) (blocks_counts (listing bs ls)) (blocks_counts bs) (block_sub js b.rows (thinned_sub t)) (counts_thinned zero ts)
counts_thinned (suc k) no_block = le_refl no_counts
counts_thinned (suc k) (block t ts) = counts_thinned k ts

-- Groups.

-- what a closing group may take
abbrev pub closing_counts : List InstructionV → Counts
closing_counts [] = no_counts
closing_counts (a ∷ []) = no_counts
closing_counts (a ∷ b ∷ ms) = plus (rows_counts (a ∷ b ∷ ms)) (pair 1)

abbrev pub AllElements : List InstructionV → Type 0
AllElements ms = (i : InstructionV) → Lists ms i → is_element i ≡ true

one : (i : InstructionV) → is_element i ≡ true → (row_counts i).elements ≡ 1
one i h = ap (λ (c : Counts). c.elements) (row_yes i h)

open_close : (todo ms : List InstructionV) (i : InstructionV) → is_element i ≡ true → AllElements ms → Le (plus (closing_counts ms) (open_counts todo (i ∷ []))) (open_counts (i ∷ todo) ms)
open_close todo [] i h q = let e = one i h in omega arith
open_close todo (a ∷ []) i h q = let e = one i h in let f = one a (q a here) in omega arith
open_close todo (a ∷ b ∷ ms) i h q = let e = one i h in let f = one a (q a here) in let g = one b (q b (there here)) in omega arith

open_last : (ms : List InstructionV) → AllElements ms → Le (closing_counts ms) (open_counts [] ms)
open_last [] q = omega arith
open_last (a ∷ []) q = omega arith
open_last (a ∷ b ∷ ms) q = let f = one a (q a here) in let g = one b (q b (there here)) in omega arith

-- a group gives a call of two rows for two members at least, and none in a Component
pub record Few (type : ℕ) (ms : List InstructionV) (ws : List Rewrite) : Type 0 where
  pub few : 2 * length ws ≤ length ms
  pub two : (v : Rewrite) → Lists ws v → length v.rows ≡ 2
  pub component : eqb type 0 ≡ true → ws ≡ []

no_rewrites : (type : ℕ) (ms : List InstructionV) → Few type ms []
no_rewrites type ms = record { few = omega arith; two = λ v l. lists_none l; component = λ _. refl }

outcome_few : (type : ℕ) (a b : InstructionV) (ms : List InstructionV) (t : Prepared) (es : List OutlinedJsxAttribute) (o : Option (List InstructionV)) → eqb type 0 ≡ false → Few type (a ∷ b ∷ ms) (outcome t es a (b ∷ ms) o).rewrites
outcome_few type a b ms t es None n = no_rewrites type (a ∷ b ∷ ms)
outcome_few type a b ms t es (Some loads) n = record { few = omega arith; two = λ v l. elim (lists_head l) [ inl e ↦ ap (λ (z : Rewrite). length z.rows) e | inr q ↦ lists_none q ]; component = λ e. absurd (both_ways (eqb type 0) n e) }

pub close_few : (type : ℕ) (gs ms : List InstructionV) (h : Hir) → Few type ms (process_jsx_group type gs ms h).rewrites
close_few type gs [] h = no_rewrites type []
close_few type gs (a ∷ []) h = no_rewrites type (a ∷ [])
close_few type gs (a ∷ b ∷ ms) h = close_ways (λ o. Few type (a ∷ b ∷ ms) o.rewrites) type gs a b ms h (λ _. no_rewrites type (a ∷ b ∷ ms)) (λ _ _. no_rewrites type (a ∷ b ∷ ms))
    (λ n _. let g = collect_props h (a ∷ b ∷ ms) in outcome_few type a b ms (prepare g.hir g.entries) g.entries (emit_load_globals gs (tag_places (a ∷ b ∷ ms))) n)

-- The principle.

-- A relation between the stores before and after, with the report, what was taken of one table, and the counts that pay for it:
-- it goes from step to step, and holds of each group of two or more and of each new list.
pub record Kept (m : Meaning) (n₀ : ℕ) (p : Price) (Ok : ℕ → List InstructionV → Type 0) (LoadOk : ℕ → InstructionV → Type 0) (R : Hir → Hir → Report → ℕ → Counts → Type 0) : Type 0 where
  pub ok_sub : {type : ℕ} {xs ys : List InstructionV} → Sublist xs ys → Ok type ys → Ok type xs
  pub ok_load : (type : ℕ) (rows : List InstructionV) (i : InstructionV) → Ok type rows → Lists rows i → is_global i ≡ true → LoadOk type i
  pub same : (h : Hir) → R h h nothing 0 no_counts
  pub then : {a b c : Hir} {r s : Report} {x y : ℕ} {u v : Counts} → R a b r x u → R b c s y v → R a c (add r s) (x + y) (plus u v)
  pub more : {a b : Hir} {r : Report} {x : ℕ} (u v : Counts) → Le u v → R a b r x u → R a b r x v
  pub idle : (h : Hir) → p.group h (done h) ≡ 0
  pub closes : (type : ℕ) (gs : List InstructionV) (a b : InstructionV) (ms : List InstructionV) (h : Hir) → eqb type 0 ≡ false
      → ((i : InstructionV) → Lists gs i → LoadOk type i) → AllElements (a ∷ b ∷ ms) → Ok type (a ∷ b ∷ ms)
      → R h (process_jsx_group type gs (a ∷ b ∷ ms) h).hir (process_jsx_group type gs (a ∷ b ∷ ms) h).report (p.group h (process_jsx_group type gs (a ∷ b ∷ ms) h)) (plus (rows_counts (a ∷ b ∷ ms)) (pair 1))
  pub relists : (h : Hir) (f k : ℕ) (w : Rewrite) (ws : List Rewrite) → f < n₀ → n₀ ≤ length h.functions → (type : ℕ) → eqb type 0 ≡ false → Ok type (rows_at h f k) → ((v : Rewrite) → Lists (w ∷ ws) v → length v.rows ≡ 2) → 2 * length (w ∷ ws) ≤ (rows_counts (rows_at h f k)).elements
      → R h (eliminated m (with_list h f k (rewritten (w ∷ ws) (rows_at h f k))) f) nothing (p.list (rewritten (w ∷ ws) (rows_at h f k))) (new_list (length (rows_at h f k) + (rows_counts (rows_at h f k)).elements / 2))

-- what is not counted costs nothing
abbrev pub free : Price
free = record { group = λ h o. 0; list = λ rows. 0 }

module _ (m : Meaning) (lawful : Lawful m) (n₀ : ℕ) (p : Price) (Ok : ℕ → List InstructionV → Type 0) (LoadOk : ℕ → InstructionV → Type 0) (R : Hir → Hir → Report → ℕ → Counts → Type 0) (kept : Kept m n₀ p Ok LoadOk R) where
  resum : {a b : Hir} {r : Report} {u : Counts} (x y : ℕ) → x ≡ y → R a b r x u → R a b r y u
  resum {a} {b} {r} {u} x y e q = subst (λ n. R a b r n u) e q

  -- nothing happened
  still : {a b : Hir} {r : Report} (x : ℕ) (u : Counts) → R a b r x u → R a b r (x + 0) (plus u no_counts)
  still x u q = resum x (x + 0) (omega arith) (kept.more u (plus u no_counts) (omega arith) q)

  idle_close : (h : Hir) (u : Counts) → R h h nothing (p.group h (done h)) u
  idle_close h u = resum 0 (p.group h (done h)) (sym (kept.idle h)) (kept.more no_counts u (le_none u) (kept.same h))

  close_related : (type : ℕ) (gs ms : List InstructionV) (h : Hir) → ((i : InstructionV) → Lists gs i → LoadOk type i) → AllElements ms → Ok type ms
      → R h (process_jsx_group type gs ms h).hir (process_jsx_group type gs ms h).report (p.group h (process_jsx_group type gs ms h)) (outside_components type (closing_counts ms))
  close_related type gs [] h l q o = idle_close h (outside_components type no_counts)
  close_related type gs (a ∷ []) h l q o = idle_close h (outside_components type no_counts)
  close_related type gs (a ∷ b ∷ ms) h l q o =
      let c = closing_counts (a ∷ b ∷ ms) in
      elim (cases_Bool (eqb type 0)) [
        | inl e ↦ close_ways (λ x. R h x.hir x.report (p.group h x) (outside_components type c)) type gs a b ms h (λ _. idle_close h (outside_components type c)) (λ n _. absurd (both_ways (eqb type 0) n e)) (λ n _. absurd (both_ways (eqb type 0) n e))
        | inr e ↦ kept.more c (outside_components type c) (le_same c (outside_components type c) (sym (pick_false (eqb type 0) no_counts c e))) (kept.closes type gs a b ms h e l q o)
      ]

  abbrev OkFunction : FunctionV → Type 0
  OkFunction g = (j : ℕ) → Ok g.type (block_rows g.blocks j)

  pub record Fine (d : ℕ) (h : Hir) (x : ℕ) : Type 0 where
    pub distinct : Distinct (on_walk d h x)
    pub each : (g : ℕ) → In g (on_walk d h x) → (g < n₀) × OkFunction (function_at h g)

  pub record Result (d : ℕ) (h : Hir) (x : ℕ) : Type 0 where
    pub related : R h (outline_jsx_impl d m h x).hir (outline_jsx_impl d m h x).report (takes p d m h x) (walk_counts d h x)
    pub growing : length h.functions ≤ length (outline_jsx_impl d m h x).hir.functions
    pub untouched : (g : ℕ) → Out g (on_walk d h x) → g < length h.functions → function_at (outline_jsx_impl d m h x).hir g ≡ function_at h g

  -- what is left of a function's walk from block k on is fine
  pub record Rest (d : ℕ) (h : Hir) (f k : ℕ) : Type 0 where
    pub low : f < n₀
    pub distinct : Distinct (f ∷ gathered (on_walk d h) (inner_of (drop k (function_at h f).blocks)))
    pub each : (g : ℕ) → In g (gathered (on_walk d h) (inner_of (drop k (function_at h f).blocks))) → (g < n₀) × OkFunction (function_at h g)
    pub own : (j : ℕ) → k ≤ j → Ok (function_at h f).type (block_rows (function_at h f).blocks j)

  rest_of_fine : (d : ℕ) (h : Hir) (f : ℕ) → Fine (suc d) h f → Rest d h f 0
  rest_of_fine d h f a =
      let reach : List ℕ = gathered (on_walk d h) (inner_of (function_at h f).blocks) in
      let mine = a.each f (in_head f reach) in
      record { low = mine.0; distinct = a.distinct; each = λ g q. a.each g (or_right (eqb g f) (within g reach) q); own = λ j l. mine.1 j }

  module _ (d : ℕ) (ih : (h : Hir) (x : ℕ) → n₀ ≤ length h.functions → Fine d h x → Result d h x) (h₀ : Hir) (f k₀ : ℕ) (big : n₀ ≤ length h₀.functions) (fine₀ : Rest d h₀ f k₀) where
    abbrev bs₀ : List BlockV
    bs₀ = (function_at h₀ f).blocks

    abbrev Reach : List ℕ → List ℕ
    Reach xs = gathered (on_walk d h₀) xs

    abbrev count₀ : ℕ → Counts
    count₀ g = function_counts (function_at h₀ g)

    abbrev reached_counts : List ℕ → Counts
    reached_counts xs = tally count₀ (Reach xs)

    -- the functions that the rest of the walk comes to
    abbrev Reached : List ℕ
    Reached = Reach (inner_of (drop k₀ bs₀))

    f_low : f < n₀
    f_low = fine₀.low

    -- what is still to be walked is as it was
    record Clean (s : Hir) (todo : List ℕ) : Type 0 where
      pub distinct : Distinct (Reach todo)
      pub apart : Out f (Reach todo)
      pub same : (g : ℕ) → In g (Reach todo) → function_at s g ≡ function_at h₀ g
      pub reached : (g : ℕ) → In g (Reach todo) → In g Reached

    clean_sub : (s : Hir) {xs ys : List ℕ} → Sublist xs ys → Clean s ys → Clean s xs
    clean_sub s b c = record {
      distinct = sub_distinct (sub_gathered (on_walk d h₀) b) c.distinct;
      apart = sub_out f (sub_gathered (on_walk d h₀) b) c.apart;
      same = λ g i. c.same g (sub_in g (sub_gathered (on_walk d h₀) b) i);
      reached = λ g i. c.reached g (sub_in g (sub_gathered (on_walk d h₀) b) i);
    }

    clean_same : (s t : Hir) (todo : List ℕ) → ((g : ℕ) → In g (Reach todo) → function_at t g ≡ function_at s g) → Clean s todo → Clean t todo
    clean_same s t todo e c = record { distinct = c.distinct; apart = c.apart; same = λ g i. e g i ∙ c.same g i; reached = c.reached }

    reach_low : (g : ℕ) → In g Reached → g < n₀
    reach_low g i = (fine₀.each g i).0

    -- between blocks
    record Between (s : Hir) (gs : List InstructionV) (k : ℕ) : Type 0 where
      pub from : k₀ ≤ k
      pub growing : length h₀.functions ≤ length s.functions
      pub part : (j : ℕ) → k ≤ j → Sublist (block_rows (function_at s f).blocks j) (block_rows bs₀ j)
      pub len : length (function_at s f).blocks ≡ length bs₀
      pub type : (function_at s f).type ≡ (function_at h₀ f).type
      pub loads : (i : InstructionV) → Lists gs i → LoadOk (function_at h₀ f).type i
      pub clean : Clean s (inner_of (drop k (function_at s f).blocks))
      pub untouched : (g : ℕ) → Out g (f ∷ Reached) → g < length h₀.functions → function_at s g ≡ function_at h₀ g

    module _ (c : Hir) (gs : List InstructionV) (k : ℕ) (start : Between c gs k) (short : k < length (function_at c f).blocks) where
      abbrev bs : List BlockV
      bs = (function_at c f).blocks

      abbrev rows : List InstructionV
      rows = block_rows bs k

      abbrev type : ℕ
      type = (function_at c f).type

      abbrev later : List ℕ
      later = inner_of (drop (suc k) bs)

      ok : Ok type rows
      ok = subst (λ z. Ok z rows) (sym start.type) (kept.ok_sub (start.part k (omega arith)) (fine₀.own k start.from))

      -- within block k
      record Inside (w : Walk) (todo back : List InstructionV) : Type 0 where
        pub growing : length c.functions ≤ length w.hir.functions
        pub same_f : function_at w.hir f ≡ function_at c f
        pub loads : (i : InstructionV) → Lists w.globals i → LoadOk type i
        pub members : Sublist w.members back
        pub jsx : AllElements w.members
        pub few : 2 * length w.rewrites + length w.members ≤ (rows_counts back).elements
        pub two : (v : Rewrite) → Lists w.rewrites v → length v.rows ≡ 2
        pub component : eqb type 0 ≡ true → w.rewrites ≡ []
        pub clean : Clean w.hir (inner todo ++ later)
        pub untouched : (g : ℕ) → Out g (f ∷ Reached) → g < length h₀.functions → function_at w.hir g ≡ function_at h₀ g

      closed_inside : (w : Walk) (todo back : List InstructionV) → Inside w todo back → Inside (process_and_outline_jsx type w) todo back
      closed_inside w todo back n =
          let o = process_jsx_group type w.globals w.members w.hir in
          let fw = close_few type w.globals w.members w.hir in
          let a = fw.few in let b = n.few in
          let gr = (close_onward type w.globals w.members w.hir).functions in
          let gw = n.growing in
          let g₀ = start.growing in
          let ap' = length-append o.rewrites w.rewrites in
          record {
            growing = omega arith;
            same_f = close_keeps type w.globals w.members w.hir f (let l = f_low in omega arith) ∙ n.same_f;
            loads = n.loads;
            members = sub_empty back;
            jsx = λ i l. lists_none l;
            few = omega arith;
            two = λ v l. elim (lists_split o.rewrites l) [ inl q ↦ fw.two v q | inr q ↦ n.two v q ];
            component = λ e. ap₂ (λ (x y : List Rewrite). x ++ y) (fw.component e) (n.component e);
            clean = clean_same w.hir o.hir (inner todo ++ later) (λ g q. close_keeps type w.globals w.members w.hir g (let l = reach_low g (n.clean.reached g q) in omega arith)) n.clean;
            untouched = λ g q l. close_keeps type w.globals w.members w.hir g (omega arith) ∙ n.untouched g q l;
          }

      later_row : (w : Walk) (i : InstructionV) (todo back : List InstructionV) → is_function i ≡ false → Inside w (i ∷ todo) back → Inside w todo (i ∷ back)
      later_row w i todo back h n =
          let b = n.few in
          record {
            growing = n.growing;
            same_f = n.same_f;
            loads = n.loads;
            members = skips n.members;
            jsx = n.jsx;
            few = omega arith;
            two = n.two;
            component = n.component;
            clean = subst (λ (l : List ℕ). Clean w.hir (l ++ later)) (pick_false (is_function i) (i.function ∷ inner todo) (inner todo) h) n.clean;
            untouched = n.untouched;
          }

      global_inside : (w : Walk) (i : InstructionV) (todo back : List InstructionV) → Lists rows i → is_global i ≡ true → Inside w (i ∷ todo) back → Inside (with_load w i) todo (i ∷ back)
      global_inside w i todo back l g n =
          let q = later_row w i todo back (ap (λ (x : ℕ). eqb x 31) (eqb-true i.kind 29 g)) n in
          record {
            growing = q.growing;
            same_f = q.same_f;
            loads = λ j a. elim (lists_head a) [ inl e ↦ subst (LoadOk type) (sym e) (kept.ok_load type rows i ok l g) | inr a' ↦ n.loads j a' ];
            members = q.members;
            jsx = q.jsx;
            few = q.few;
            two = q.two;
            component = q.component;
            clean = q.clean;
            untouched = q.untouched;
          }

      join_inside : (w : Walk) (i : InstructionV) (todo back : List InstructionV) → is_element i ≡ true → Inside w (i ∷ todo) back → Inside (joined w i) todo (i ∷ back)
      join_inside w i todo back h n =
          let q = later_row w i todo back (ap (λ (x : ℕ). eqb x 31) (eqb-true i.kind 16 h)) n in
          let b = n.few in
          let e = one i h in
          record {
            growing = q.growing;
            same_f = q.same_f;
            loads = q.loads;
            members = keeps n.members;
            jsx = λ j a. elim (lists_head a) [ inl e' ↦ subst (λ (z : InstructionV). is_element z ≡ true) (sym e') h | inr a' ↦ n.jsx j a' ];
            few = omega arith;
            two = q.two;
            component = q.component;
            clean = q.clean;
            untouched = q.untouched;
          }

      -- an inner function
      module _ (w : Walk) (i : InstructionV) (todo back : List InstructionV) (h : is_function i ≡ true) (n : Inside w (i ∷ todo) back) where
        abbrev x : ℕ
        x = i.function

        abbrev rest : List ℕ
        rest = inner todo ++ later

        abbrev mine : List ℕ
        mine = on_walk d h₀ x

        cl : Clean w.hir (x ∷ rest)
        cl = subst (λ (l : List ℕ). Clean w.hir (l ++ later)) (pick_true (is_function i) (x ∷ inner todo) (inner todo) h) n.clean

        same_mine : on_walk d w.hir x ≡ mine
        same_mine = same_walk h₀ w.hir d x (λ g q. cl.same g (in_left g mine (Reach rest) q))

        counted : walk_counts d w.hir x ≡ tally (λ g. function_counts (function_at h₀ g)) mine
        counted = ap (tally (λ g. function_counts (function_at w.hir g))) same_mine ∙ tally_same (λ g. function_counts (function_at w.hir g)) (λ g. function_counts (function_at h₀ g)) mine (λ g q. ap function_counts (cl.same g (in_left g mine (Reach rest) q)))

        fine : Fine d w.hir x
        fine = record {
          distinct = subst Distinct (sym same_mine) (distinct_left mine (Reach rest) cl.distinct);
          each = λ g q.
              let q' = in_left g mine (Reach rest) (subst (λ (l : List ℕ). In g l) same_mine q) in
              let e₀ = fine₀.each g (cl.reached g q') in
              (e₀.0, subst OkFunction (sym (cl.same g q')) e₀.1);
        }

        res : Result d w.hir x
        res = let a = n.growing in let b = start.growing in ih w.hir x (omega arith) fine

        out : (g : ℕ) → Out g mine → Out g (on_walk d w.hir x)
        out g o = subst (λ (l : List ℕ). Out g l) (sym same_mine) o

        function_inside : Inside (with_outcome w (outline_jsx_impl d m w.hir x)) todo (i ∷ back)
        function_inside =
            let a = n.growing in let a₀ = start.growing in let b = res.growing in let c' = n.few in let lf = f_low in
            record {
              growing = omega arith;
              same_f = res.untouched f (out f (out_parts f mine (Reach rest) cl.apart).0) (omega arith) ∙ n.same_f;
              loads = n.loads;
              members = skips n.members;
              jsx = n.jsx;
              few = omega arith;
              two = n.two;
              component = n.component;
              clean = clean_same w.hir (outline_jsx_impl d m w.hir x).hir rest (λ g q. res.untouched g (out g (out_if g mine (λ a'. in_out g (Reach rest) q (distinct_apart g mine (Reach rest) cl.distinct a')))) (let lw = reach_low g (cl.reached g (in_right g mine (Reach rest) q)) in omega arith)) (clean_sub w.hir (skips (sub_refl rest)) cl);
              untouched = λ g o l. res.untouched g (out g (out_if g mine (λ a'. in_out g (f ∷ Reached) (or_right (eqb g f) (within g Reached) (cl.reached g (in_left g mine (Reach rest) a'))) o))) (omega arith) ∙ n.untouched g o l;
            }

      pass_inside : (w : Walk) (i : InstructionV) (todo back : List InstructionV) → Lists rows i → Inside w (i ∷ todo) back → Inside (passed (outline_jsx_impl d m) type w i) todo (i ∷ back)
      pass_inside w i todo back l n = passed_ways (λ v. Inside v todo (i ∷ back)) (outline_jsx_impl d m) type w i
          (λ g. global_inside w i todo back l g n)
          (λ _ h. function_inside w i todo back h n)
          (λ _ _ j _. join_inside w i todo back j n)
          (λ _ _ j _. join_inside (process_and_outline_jsx type w) i todo back j (closed_inside w (i ∷ todo) back n))
          (λ _ h _. later_row w i todo back h n)

      -- what the rows still to be passed may take
      abbrev ahead : Walk → List InstructionV → Counts
      ahead w todo = plus (outside_components type (open_counts todo w.members)) (reached_counts (inner todo))

      ok_members : (w : Walk) (todo back : List InstructionV) → Sublist back rows → Inside w todo back → Ok type w.members
      ok_members w todo back s n = kept.ok_sub (sub_trans n.members s) ok

      abbrev Step : Walk → InstructionV → List InstructionV → ℕ → Counts → Walk → ℕ → Type 0
      Step w i todo y u v t = (δ : Counts) × R h₀ v.hir v.report (y + t) (plus u δ) × Le (plus δ (ahead v todo)) (ahead w (i ∷ todo))

      reach_later : (i : InstructionV) (todo : List InstructionV) → is_function i ≡ false → reached_counts (inner (i ∷ todo)) ≡ reached_counts (inner todo)
      reach_later i todo h = ap reached_counts (pick_false (is_function i) (i.function ∷ inner todo) (inner todo) h)

      -- a row that takes nothing
      quiet : (w v : Walk) (i : InstructionV) (todo : List InstructionV) (y : ℕ) (u : Counts) → v.hir ≡ w.hir → v.report ≡ w.report → is_function i ≡ false → Le (open_counts todo v.members) (open_counts (i ∷ todo) w.members) → R h₀ w.hir w.report y u → Step w i todo y u v 0
      quiet w v i todo y u e e' h l q =
          let lo = outside_le type (open_counts todo v.members) (open_counts (i ∷ todo) w.members) l in
          let lr = le_same (reached_counts (inner todo)) (reached_counts (inner (i ∷ todo))) (sym (reach_later i todo h)) in
          (no_counts, subst (λ (z : Hir). R h₀ z v.report (y + 0) (plus u no_counts)) (sym e) (subst (λ (z : Report). R h₀ w.hir z (y + 0) (plus u no_counts)) (sym e') (still y u q)), omega arith)

      pass_step : (w : Walk) (i : InstructionV) (todo back : List InstructionV) → Sublist back rows → Inside w (i ∷ todo) back → (y : ℕ) (u : Counts) → R h₀ w.hir w.report y u
          → Step w i todo y u (passed (outline_jsx_impl d m) type w i) (passing p (takes p d m) type w i)
      pass_step w i todo back s n y u q = passing_ways (Step w i todo y u) p (outline_jsx_impl d m) (takes p d m) type w i
          (λ g. quiet w (with_load w i) i todo y u refl refl (ap (λ (z : ℕ). eqb z 31) (eqb-true i.kind 29 g)) (omega arith) q)
          (λ _ h.
          let δ = walk_counts d w.hir i.function in
          let lc = le_same δ (tally (λ g. function_counts (function_at h₀ g)) (on_walk d h₀ i.function)) (counted w i todo back h n) in
          let lt = (tally-++ (λ g. function_counts (function_at h₀ g)) (on_walk d h₀ i.function) (Reach (inner todo))).0 in
          let le = le_same (reached_counts (i.function ∷ inner todo)) (reached_counts (inner (i ∷ todo))) (ap reached_counts (sym (pick_true (is_function i) (i.function ∷ inner todo) (inner todo) h))) in
          let lo = outside_le type (open_counts todo w.members) (open_counts (i ∷ todo) w.members) (omega arith) in
          (δ, kept.then q (res w i todo back h n).related, omega arith))
          (λ _ h j _. quiet w (joined w i) i todo y u refl refl h (omega arith) q)
          (λ _ h j _.
          let ms = w.members in
          let lo = outside_two type (closing_counts ms) (open_counts todo (i ∷ [])) (open_counts (i ∷ todo) ms) (open_close todo ms i j n.jsx) in
          let lr = le_same (reached_counts (inner todo)) (reached_counts (inner (i ∷ todo))) (sym (reach_later i todo h)) in
          (outside_components type (closing_counts ms), kept.then q (close_related type w.globals ms w.hir n.loads n.jsx (ok_members w (i ∷ todo) back s n)), omega arith))
          (λ _ h _. quiet w w i todo y u refl refl h (omega arith) q)

      walk_inside : (w : Walk) (todo back : List InstructionV) → rows ≡ backwards todo ++ back → Inside w todo back → Inside (walk_back (outline_jsx_impl d m) type w todo) [] rows
      walk_inside w [] back eq n = subst (λ (z : List InstructionV). Inside (process_and_outline_jsx type w) [] z) (sym eq) (closed_inside w [] back n)
      walk_inside w (i ∷ todo) back eq n =
          let eq' : rows ≡ backwards todo ++ (i ∷ back) = eq ∙ append_assoc (backwards todo) (i ∷ []) back in
          walk_inside (passed (outline_jsx_impl d m) type w i) todo (i ∷ back) eq' (pass_inside w i todo back (subst (λ (z : List InstructionV). Lists z i) (sym eq') (lists_right (backwards todo) here)) n)

      walk_related : (w : Walk) (todo back : List InstructionV) → rows ≡ backwards todo ++ back → Inside w todo back → (y : ℕ) (u : Counts) → R h₀ w.hir w.report y u
          → R h₀ (walk_back (outline_jsx_impl d m) type w todo).hir (walk_back (outline_jsx_impl d m) type w todo).report (y + going_back p (outline_jsx_impl d m) (takes p d m) type w todo) (plus u (ahead w todo))
      walk_related w [] back eq n y u q =
          let ms = w.members in
          let s : Sublist back rows = subst (λ (z : List InstructionV). Sublist back z) (sym eq) (sub_refl back) in
          let lo = outside_le type (closing_counts ms) (open_counts [] ms) (open_last ms n.jsx) in
          kept.more (plus u (outside_components type (closing_counts ms))) (plus u (ahead w [])) (omega arith)
          (kept.then q (close_related type w.globals ms w.hir n.loads n.jsx (ok_members w [] back s n)))
      walk_related w (i ∷ todo) back eq n y u q =
          let eq' : rows ≡ backwards todo ++ (i ∷ back) = eq ∙ append_assoc (backwards todo) (i ∷ []) back in
          let s : Sublist back rows = subst (λ (z : List InstructionV). Sublist back z) (sym eq') (sub_front (backwards todo) (skips (sub_refl back))) in
          let v = passed (outline_jsx_impl d m) type w i in
          let t = passing p (takes p d m) type w i in
          let st = pass_step w i todo back s n y u q in
          let fin = walk_related v todo (i ∷ back) eq' (pass_inside w i todo back (subst (λ (z : List InstructionV). Lists z i) (sym eq') (lists_right (backwards todo) here)) n) (y + t) (plus u st.0) st.1 in
          let l = st.2 in
          kept.more (plus (plus u st.0) (ahead v todo)) (plus u (ahead w (i ∷ todo))) (omega arith)
          (resum (y + t + going_back p (outline_jsx_impl d m) (takes p d m) type v todo) (y + (t + going_back p (outline_jsx_impl d m) (takes p d m) type v todo)) (omega arith) fin)

      start_inside : (rep : Report) → Inside (start_block c gs rep) (backwards rows) []
      start_inside rep = record {
        growing = omega arith;
        same_f = refl;
        loads = λ i l. subst (λ z. LoadOk z i) (sym start.type) (start.loads i l);
        members = ends;
        jsx = λ i l. lists_none l;
        few = omega arith;
        two = λ v l. lists_none l;
        component = λ _. refl;
        clean = subst (Clean c) (later_split bs k short) start.clean;
        untouched = start.untouched;
      }

      -- after the block, less is left of the blocks to come
      record PassedBlock (s : Hir) (gs' : List InstructionV) : Type 0 where
        pub between : Between s gs' (suc k)
        pub counts : Le (blocks_counts (drop (suc k) (function_at s f).blocks)) (blocks_counts (drop (suc k) bs))
        pub inside : Sublist (inner_of (drop (suc k) (function_at s f).blocks)) later

      module _ (v : Walk) (n : Inside v [] rows) where
        abbrev hv : Hir
        hv = v.hir

        idle_block : PassedBlock hv v.globals
        idle_block =
            let a = start.growing in let b = n.growing in let fr = start.from in
            record {
              between = record {
                from = omega arith;
                growing = omega arith;
                part = λ j l. subst (λ (g : FunctionV). Sublist (block_rows g.blocks j) (block_rows bs₀ j)) (sym n.same_f) (start.part j (omega arith));
                len = ap (λ (g : FunctionV). length g.blocks) n.same_f ∙ start.len;
                type = ap (λ (g : FunctionV). g.type) n.same_f ∙ start.type;
                loads = λ i l. subst (λ z. LoadOk z i) start.type (n.loads i l);
                clean = subst (λ (g : FunctionV). Clean hv (inner_of (drop (suc k) g.blocks))) (sym n.same_f) n.clean;
                untouched = n.untouched;
              };
              counts = subst (λ (g : FunctionV). Le (blocks_counts (drop (suc k) g.blocks)) (blocks_counts (drop (suc k) bs))) (sym n.same_f) (le_refl (blocks_counts (drop (suc k) bs)));
              inside = subst (λ (g : FunctionV). Sublist (inner_of (drop (suc k) g.blocks)) later) (sym n.same_f) (sub_refl later);
            }

        abbrev h₁ : Hir
        h₁ = with_list hv f k (rewritten v.rewrites (rows_at hv f k))

        abbrev h₂ : Hir
        h₂ = eliminated m h₁ f

        abbrev Fn₁ : FunctionV → FunctionV
        Fn₁ g = with_blocks g (changed (λ b. with_rows b (rewritten v.rewrites (rows_at hv f k))) k g.blocks)

        abbrev Fn₂ : FunctionV → FunctionV
        Fn₂ g = with_blocks g (listing g.blocks (m h₁ f))

        f_short : f < length hv.functions
        f_short = let a = start.growing in let b = n.growing in let l = f_low in omega arith

        at₁ : function_at h₁ f ≡ Fn₁ (function_at hv f)
        at₁ = at_changed Fn₁ f hv.functions no_function f_short

        at₂ : function_at h₂ f ≡ Fn₂ (function_at h₁ f)
        at₂ = let l = length_changed Fn₁ f hv.functions in let s = f_short in at_changed Fn₂ f h₁.functions no_function (omega arith)

        there₂ : (g : ℕ) → (g ≡ f → ⊥) → function_at h₂ g ≡ function_at hv g
        there₂ g o = at_other Fn₂ f g h₁.functions no_function o ∙ at_other Fn₁ f g hv.functions no_function o

        abbrev new_rows : List InstructionV
        new_rows = rewritten v.rewrites (rows_at hv f k)

        thinned : ThinnedAll (still_read (listing (function_at h₁ f).blocks (m h₁ f))) (function_at h₁ f).blocks (m h₁ f)
        thinned = lawful h₁ f

        inside₂ : Sublist (inner_of (drop (suc k) (function_at h₂ f).blocks)) later
        inside₂ = subst (λ (g : FunctionV). Sublist (inner_of (drop (suc k) g.blocks)) later) (sym at₂)
            (subst (λ (l : List ℕ). Sublist (inner_of (drop (suc k) (listing (function_at h₁ f).blocks (m h₁ f)))) l) (ap (λ (g : FunctionV). inner_of (drop (suc k) g.blocks)) at₁ ∙ later_changed new_rows k (function_at hv f).blocks ∙ ap (λ (g : FunctionV). inner_of (drop (suc k) g.blocks)) n.same_f)
            (later_thinned (suc k) thinned))

        counts₂ : Le (blocks_counts (drop (suc k) (function_at h₂ f).blocks)) (blocks_counts (drop (suc k) bs))
        counts₂ = subst (λ (g : FunctionV). Le (blocks_counts (drop (suc k) g.blocks)) (blocks_counts (drop (suc k) bs))) (sym at₂)
            (subst (λ (z : Counts). Le (blocks_counts (drop (suc k) (listing (function_at h₁ f).blocks (m h₁ f)))) z) (ap (λ (g : FunctionV). blocks_counts (drop (suc k) g.blocks)) at₁ ∙ counts_changed new_rows k (function_at hv f).blocks ∙ ap (λ (g : FunctionV). blocks_counts (drop (suc k) g.blocks)) n.same_f)
            (counts_thinned (suc k) thinned))

        part₂ : (j : ℕ) → suc k ≤ j → Sublist (block_rows (function_at h₂ f).blocks j) (block_rows bs₀ j)
        part₂ j l = subst (λ (g : FunctionV). Sublist (block_rows g.blocks j) (block_rows bs₀ j)) (sym at₂)
            (sub_trans (thinned_sub (thinned_block (still_read (listing (function_at h₁ f).blocks (m h₁ f))) thinned j))
            (subst (λ (z : List InstructionV). Sublist z (block_rows bs₀ j)) (sym (ap (λ (g : FunctionV). block_rows g.blocks j) at₁ ∙ changed_there new_rows j k (function_at hv f).blocks (λ e. omega arith) ∙ ap (λ (g : FunctionV). block_rows g.blocks j) n.same_f)) (start.part j (omega arith))))

        changed_block : PassedBlock h₂ v.globals
        changed_block =
            let a = start.growing in let b = n.growing in
            let l₁ = length_changed Fn₁ f hv.functions in let l₂ = length_changed Fn₂ f h₁.functions in let fr = start.from in
            record {
              between = record {
                from = omega arith;
                growing = omega arith;
                part = part₂;
                len = ap (λ (g : FunctionV). length g.blocks) at₂ ∙ listing_length (function_at h₁ f).blocks (m h₁ f) ∙ ap (λ (g : FunctionV). length g.blocks) at₁ ∙ length_changed (λ b. with_rows b new_rows) k (function_at hv f).blocks ∙ ap (λ (g : FunctionV). length g.blocks) n.same_f ∙ start.len;
                type = ap (λ (g : FunctionV). g.type) at₂ ∙ ap (λ (g : FunctionV). g.type) at₁ ∙ ap (λ (g : FunctionV). g.type) n.same_f ∙ start.type;
                loads = λ i l. subst (λ z. LoadOk z i) start.type (n.loads i l);
                clean = clean_sub h₂ inside₂ (clean_same hv h₂ later (λ g q. there₂ g (λ e. in_out f (Reach later) (subst (λ x. In x (Reach later)) e q) n.clean.apart)) n.clean);
                untouched = λ g o l. there₂ g (λ e. in_out f (f ∷ Reached) (in_head f Reached) (subst (λ z. Out z (f ∷ Reached)) e o)) ∙ n.untouched g o l;
              };
              counts = counts₂;
              inside = inside₂;
            }

        finish : PassedBlock (finished m f k v) v.globals
        finish = elim v.rewrites as (λ ws. PassedBlock (elim ws [ [] ↦ hv | w ∷ rs ↦ h₂ ]) v.globals) [ [] ↦ idle_block | w ∷ rs ↦ changed_block ]

        finish_related : (y : ℕ) (u : Counts) → R h₀ hv v.report y (plus u (ahead (start_block c gs nothing) (backwards rows)))
            → R h₀ (finished m f k v) v.report (y + relisting p v.rewrites (rows_at hv f k)) (plus u (plus (outside_components type (block_counts rows)) (reached_counts (inner (backwards rows)))))
        finish_related y u q =
            let same_rows : rows_at hv f k ≡ rows = ap (λ (g : FunctionV). block_rows g.blocks k) n.same_f in
            let lb = rows_backwards rows in
            let none : Le (open_counts (backwards rows) []) (plus (rows_counts rows) (pair ((rows_counts rows).elements / 2))) = omega arith in
            let B : List Rewrite → Type 0 = λ ws. v.rewrites ≡ ws → R h₀ (elim ws [ [] ↦ hv | w ∷ rs ↦ h₂ ]) v.report (y + relisting p ws (rows_at hv f k)) (plus u (plus (outside_components type (block_counts rows)) (reached_counts (inner (backwards rows))))) in
            (elim v.rewrites as B [
              | [] ↦ λ e.
                  let lo = outside_le type (open_counts (backwards rows) []) (block_counts rows) (le_trans (open_counts (backwards rows) []) (plus (rows_counts rows) (pair ((rows_counts rows).elements / 2))) (block_counts rows) none (block_share rows)) in
                  resum y (y + 0) (omega arith) (kept.more (plus u (ahead (start_block c gs nothing) (backwards rows))) (plus u (plus (outside_components type (block_counts rows)) (reached_counts (inner (backwards rows))))) (omega arith) q)
              | w ∷ rs ↦ λ e.
                  let yes : eqb type 0 ≡ false = elim (cases_Bool (eqb type 0)) [ inl t ↦ (let z : (w ∷ rs) ≡ [] = sym e ∙ n.component t in let o : ◌≡◌ {A = ℕ} 0 1 = cc in absurd (omega arith)) | inr t ↦ t ] in
                  let fw : 2 * length v.rewrites + length v.members ≤ (rows_counts rows).elements = n.few in
                  let fw' : 2 * length (w ∷ rs) + length v.members ≤ (rows_counts rows).elements = subst (λ (z : List Rewrite). 2 * length z + length v.members ≤ (rows_counts rows).elements) e fw in
                  let fw'' : 2 * length (w ∷ rs) ≤ (rows_counts rows).elements = omega arith in
                  let a = start.growing in let b = n.growing in
                  let step = kept.relists hv f k w rs f_low (omega arith) type yes (subst (Ok type) (sym same_rows) ok) (λ x l. n.two x (subst (λ (z : List Rewrite). Lists z x) (sym e) l)) (subst (λ (z : List InstructionV). 2 * length (w ∷ rs) ≤ (rows_counts z).elements) (sym same_rows) fw'') in
                  let at : (z : Counts) → outside_components type z ≡ z = λ z. pick_false (eqb type 0) no_counts z yes in
                  let l₁ = le_same (outside_components type (open_counts (backwards rows) [])) (open_counts (backwards rows) []) (at (open_counts (backwards rows) [])) in
                  let l₂ = le_same (block_counts rows) (outside_components type (block_counts rows)) (sym (at (block_counts rows))) in
                  let l₃ = block_listed rows (omega arith) in
                  let N = new_list (length (rows_at hv f k) + (rows_counts (rows_at hv f k)).elements / 2) in
                  let l₄ : Le N (new_list (length rows + (rows_counts rows).elements / 2)) = le_same N (new_list (length rows + (rows_counts rows).elements / 2)) (ap (λ (z : List InstructionV). new_list (length z + (rows_counts z).elements / 2)) same_rows) in
                  kept.more (plus (plus u (ahead (start_block c gs nothing) (backwards rows))) N) (plus u (plus (outside_components type (block_counts rows)) (reached_counts (inner (backwards rows))))) (omega arith)
                  (subst (λ (z : Hir). R h₀ z v.report (y + p.list (rewritten (w ∷ rs) (rows_at hv f k))) (plus (plus u (ahead (start_block c gs nothing) (backwards rows))) N)) (ap (λ (z : List Rewrite). eliminated m (with_list hv f k (rewritten z (rows_at hv f k))) f) (sym e))
                  (subst (λ (z : Report). R h₀ (eliminated m (with_list hv f k (rewritten (w ∷ rs) (rows_at hv f k))) f) z (y + p.list (rewritten (w ∷ rs) (rows_at hv f k))) (plus (plus u (ahead (start_block c gs nothing) (backwards rows))) N)) (add_none v.report) (kept.then q step)))
            ]) refl

    -- what the blocks still to be walked may take
    abbrev to_come : ℕ → Hir → Counts
    to_come k s = plus (outside_components (function_at h₀ f).type (blocks_counts (drop k (function_at s f).blocks))) (reached_counts (inner_of (drop k (function_at s f).blocks)))

    abbrev after_block : Walk → ℕ → Walk
    after_block w k = walk_back (outline_jsx_impl d m) (function_at w.hir f).type (start_block w.hir w.globals w.report) (backwards (rows_at w.hir f k))

    module _ (w : Walk) (k : ℕ) (b : Between w.hir w.globals k) (s : k < length bs₀) where
      short : k < length (function_at w.hir f).blocks
      short = let l = b.len in omega arith

      whole : rows_at w.hir f k ≡ backwards (backwards (rows_at w.hir f k)) ++ []
      whole = sym (append_none (backwards (backwards (rows_at w.hir f k))) ∙ backwards_twice (rows_at w.hir f k))

      begun : Inside w.hir w.globals k b short (start_block w.hir w.globals w.report) (backwards (rows_at w.hir f k)) []
      begun = start_inside w.hir w.globals k b short w.report

      ended : Inside w.hir w.globals k b short (after_block w k) [] (rows_at w.hir f k)
      ended = walk_inside w.hir w.globals k b short (start_block w.hir w.globals w.report) (backwards (rows_at w.hir f k)) [] whole begun

      passed_block : PassedBlock w.hir w.globals k b short (finished m f k (after_block w k)) (after_block w k).globals
      passed_block = finish w.hir w.globals k b short (after_block w k) ended

      block_related : (y : ℕ) (u : Counts) → R h₀ w.hir w.report y u
          → R h₀ (walk_block m (outline_jsx_impl d m) f k w).hir (walk_block m (outline_jsx_impl d m) f k w).report (y + block_takes p (outline_jsx_impl d m) (takes p d m) f k w) (plus u (plus (outside_components (function_at w.hir f).type (block_counts (rows_at w.hir f k))) (reached_counts (inner (backwards (rows_at w.hir f k))))))
      block_related y u q =
          let back = going_back p (outline_jsx_impl d m) (takes p d m) (function_at w.hir f).type (start_block w.hir w.globals w.report) (backwards (rows_at w.hir f k)) in
          let list = relisting p (after_block w k).rewrites (rows_at (after_block w k).hir f k) in
          resum (y + back + list) (y + (back + list)) (omega arith)
          (finish_related w.hir w.globals k b short (after_block w k) ended (y + back) u
          (walk_related w.hir w.globals k b short (start_block w.hir w.globals w.report) (backwards (rows_at w.hir f k)) [] whole begun y u q))

      -- a block's share and what comes after it
      block_share_of : Le (plus (plus (outside_components (function_at w.hir f).type (block_counts (rows_at w.hir f k))) (reached_counts (inner (backwards (rows_at w.hir f k))))) (to_come (suc k) (finished m f k (after_block w k)))) (to_come k w.hir)
      block_share_of =
          let bs = (function_at w.hir f).blocks in
          let ty = (function_at h₀ f).type in
          let B = block_counts (rows_at w.hir f k) in
          let L = blocks_counts (drop (suc k) bs) in
          let N = blocks_counts (drop (suc k) (function_at (finished m f k (after_block w k)) f).blocks) in
          let e₁ = le_same (outside_components (function_at w.hir f).type B) (outside_components ty B) (ap (λ (z : ℕ). outside_components z B) b.type) in
          let l₁ = outside_two ty B N (blocks_counts (drop k bs)) (let e = le_same (plus B L) (blocks_counts (drop k bs)) (sym (later_counts k bs short)) in let c = passed_block.counts in omega arith) in
          let mine = inner (backwards (rows_at w.hir f k)) in
          let theirs = inner_of (drop (suc k) bs) in
          let e₂ = le_same (reached_counts (mine ++ theirs)) (reached_counts (inner_of (drop k bs))) (ap reached_counts (sym (later_split bs k short))) in
          let e₃ = le_same (tally count₀ (Reach mine ++ Reach theirs)) (reached_counts (mine ++ theirs)) (ap (tally count₀) (sym (gathered-++ (on_walk d h₀) mine theirs))) in
          let l₂ = (tally-++ count₀ (Reach mine) (Reach theirs)).0 in
          let l₃ = tally_sub count₀ (sub_gathered (on_walk d h₀) passed_block.inside) in
          omega arith

    blocks_between : (n : ℕ) (w : Walk) (k : ℕ) → Between w.hir w.globals k → k + n ≡ length bs₀ → Between (walk_blocks n m (outline_jsx_impl d m) f k w).hir (walk_blocks n m (outline_jsx_impl d m) f k w).globals (k + n)
    blocks_between zero w k b e = subst (Between w.hir w.globals) (omega arith) b
    blocks_between (suc n) w k b e = subst (Between (walk_blocks (suc n) m (outline_jsx_impl d m) f k w).hir (walk_blocks (suc n) m (outline_jsx_impl d m) f k w).globals) (omega arith) (blocks_between n (walk_block m (outline_jsx_impl d m) f k w) (suc k) (passed_block w k b (omega arith)).between (omega arith))

    blocks_related : (n : ℕ) (w : Walk) (k : ℕ) → Between w.hir w.globals k → k + n ≡ length bs₀ → (y : ℕ) (u : Counts) → R h₀ w.hir w.report y u
        → R h₀ (walk_blocks n m (outline_jsx_impl d m) f k w).hir (walk_blocks n m (outline_jsx_impl d m) f k w).report (y + blocks_take n p m (outline_jsx_impl d m) (takes p d m) f k w) (plus u (to_come k w.hir))
    blocks_related zero w k b e y u q = resum y (y + 0) (omega arith) (kept.more u (plus u (to_come k w.hir)) (omega arith) q)
    blocks_related (suc n) w k b e y u q =
        let s : k < length bs₀ = omega arith in
        let v = walk_block m (outline_jsx_impl d m) f k w in
        let t = block_takes p (outline_jsx_impl d m) (takes p d m) f k w in
        let r = blocks_take n p m (outline_jsx_impl d m) (takes p d m) f (suc k) v in
        let c = plus (outside_components (function_at w.hir f).type (block_counts (rows_at w.hir f k))) (reached_counts (inner (backwards (rows_at w.hir f k)))) in
        let l = block_share_of w k b s in
        kept.more (plus (plus u c) (to_come (suc k) v.hir)) (plus u (to_come k w.hir)) (omega arith)
        (resum (y + t + r) (y + (t + r)) (omega arith) (blocks_related n v (suc k) (passed_block w k b s).between (omega arith) (y + t) (plus u c) (block_related w k b s y u q)))

    first_between : (gs : List InstructionV) → ((i : InstructionV) → Lists gs i → LoadOk (function_at h₀ f).type i) → Between h₀ gs k₀
    first_between gs loads = record {
      from = omega arith;
      growing = omega arith;
      part = λ j l. sub_refl (block_rows bs₀ j);
      len = refl;
      type = refl;
      loads = loads;
      clean = record { distinct = fine₀.distinct.1; apart = fine₀.distinct.0; same = λ g q. refl; reached = λ g q. q };
      untouched = λ g o l. refl;
    }

    -- what is left from block k on, as it then stands
    rest_between : (s : Hir) (gs : List InstructionV) (k : ℕ) → Between s gs k → Rest d s f k
    rest_between s gs k b =
        let todo = inner_of (drop k (function_at s f).blocks) in
        let same_reach : gathered (on_walk d s) todo ≡ Reach todo = gathered_same (on_walk d s) (on_walk d h₀) todo (λ y i. same_walk h₀ s d y (λ g q. b.clean.same g (in_gather (on_walk d h₀) g y todo i q))) in
        record {
          low = f_low;
          distinct = (subst (λ (l : List ℕ). Out f l) (sym same_reach) b.clean.apart, subst Distinct (sym same_reach) b.clean.distinct);
          each = λ g q.
              let q' = subst (λ (l : List ℕ). In g l) same_reach q in
              let e = fine₀.each g (b.clean.reached g q') in
              (e.0, subst OkFunction (sym (b.clean.same g q')) e.1);
          own = λ j l. (let fr = b.from in subst (λ z. Ok z (block_rows (function_at s f).blocks j)) (sym b.type) (kept.ok_sub (b.part j l) (fine₀.own j (omega arith))));
        }

  walk_result : (d : ℕ) → ((h : Hir) (x : ℕ) → n₀ ≤ length h.functions → Fine d h x → Result d h x) → (h : Hir) (f : ℕ) → n₀ ≤ length h.functions → Fine (suc d) h f → Result (suc d) h f
  walk_result d ih h f big fine =
      let rest = rest_of_fine d h f fine in
      let n = length (function_at h f).blocks in
      let first = first_between d ih h f 0 big rest [] (λ i l. lists_none l) in
      let b = blocks_between d ih h f 0 big rest n (start_block h [] nothing) 0 first (omega arith) in
      let t = blocks_take n p m (outline_jsx_impl d m) (takes p d m) f 0 (start_block h [] nothing) in
      record {
        related = kept.more (plus no_counts (rest_counts d h f 0)) (walk_counts (suc d) h f) (omega arith) (resum (0 + t) t (omega arith) (blocks_related d ih h f 0 big rest n (start_block h [] nothing) 0 first (omega arith) 0 no_counts (kept.same h)));
        growing = b.growing;
        untouched = b.untouched;
      }

  pub walk_kept : (d : ℕ) (h : Hir) (x : ℕ) → n₀ ≤ length h.functions → Fine d h x → Result d h x
  walk_kept zero h x big fine = record { related = kept.same h; growing = omega arith; untouched = λ g o l. refl }
  walk_kept (suc d) h x big fine = walk_result d (walk_kept d) h x big fine

  -- One block of a walk: its share, and what is left after it.
  module _ (d : ℕ) (h : Hir) (f k : ℕ) (gs : List InstructionV) (r : Report) (big : n₀ ≤ length h.functions) (rest : Rest d h f k) (loads : (i : InstructionV) → Lists gs i → LoadOk (function_at h f).type i) (short : k < length (function_at h f).blocks) where
    abbrev began : Walk
    began = start_block h gs r

    abbrev went : Walk
    went = walk_block m (outline_jsx_impl d m) f k began

    pub record BlockKept : Type 0 where
      pub paid : Counts
      pub within : Le (plus paid (rest_counts d went.hir f (suc k))) (rest_counts d h f k)
      pub related : R h went.hir went.report (block_takes p (outline_jsx_impl d m) (takes p d m) f k began) paid
      pub next : Rest d went.hir f (suc k)
      pub next_loads : (i : InstructionV) → Lists went.globals i → LoadOk (function_at went.hir f).type i
      pub len : length (function_at went.hir f).blocks ≡ length (function_at h f).blocks

    pub block_kept : R h h r 0 no_counts → BlockKept
    block_kept begin =
        let ih = walk_kept d in
        let first = first_between d ih h f k big rest gs loads in
        let pb = passed_block d ih h f k big rest began k first short in
        let b = pb.between in
        let t = block_takes p (outline_jsx_impl d m) (takes p d m) f k began in
        let c = plus (outside_components (function_at h f).type (block_counts (rows_at h f k))) (tally (λ g. function_counts (function_at h g)) (gathered (on_walk d h) (inner (backwards (rows_at h f k))))) in
        let todo = inner_of (drop (suc k) (function_at went.hir f).blocks) in
        let same_reach : gathered (on_walk d went.hir) todo ≡ gathered (on_walk d h) todo = gathered_same (on_walk d went.hir) (on_walk d h) todo (λ y i. same_walk h went.hir d y (λ g q. b.clean.same g (in_gather (on_walk d h) g y todo i q))) in
        let same_counts : tally (λ g. function_counts (function_at went.hir g)) (gathered (on_walk d went.hir) todo) ≡ tally (λ g. function_counts (function_at h g)) (gathered (on_walk d h) todo) = ap (tally (λ g. function_counts (function_at went.hir g))) same_reach ∙ tally_same (λ g. function_counts (function_at went.hir g)) (λ g. function_counts (function_at h g)) (gathered (on_walk d h) todo) (λ g q. ap function_counts (b.clean.same g q)) in
        let l₁ = le_same (tally (λ g. function_counts (function_at went.hir g)) (gathered (on_walk d went.hir) todo)) (tally (λ g. function_counts (function_at h g)) (gathered (on_walk d h) todo)) same_counts in
        let l₂ = le_same (outside_components (function_at went.hir f).type (blocks_counts (drop (suc k) (function_at went.hir f).blocks))) (outside_components (function_at h f).type (blocks_counts (drop (suc k) (function_at went.hir f).blocks))) (ap (λ (z : ℕ). outside_components z (blocks_counts (drop (suc k) (function_at went.hir f).blocks))) b.type) in
        let l₃ = block_share_of d ih h f k big rest began k first short in
        record {
          paid = c;
          within = omega arith;
          related = kept.more (plus no_counts c) c (omega arith) (resum (0 + t) t (omega arith) (block_related d ih h f k big rest began k first short 0 no_counts begin));
          next = rest_between d ih h f k big rest went.hir went.globals (suc k) b;
          next_loads = λ i l. subst (λ z. LoadOk z i) (sym b.type) (b.loads i l);
          len = b.len;
        }

  -- The rows of a block, whatever block they are of.
  module _ (d type : ℕ) where
    -- the functions that the rows still to be passed come to
    abbrev Ahead : Hir → List InstructionV → List ℕ
    Ahead s todo = gathered (on_walk d s) (inner todo)

    pub record RowsFine (w : Walk) (todo : List InstructionV) : Type 0 where
      pub big : n₀ ≤ length w.hir.functions
      pub distinct : Distinct (Ahead w.hir todo)
      pub each : (g : ℕ) → In g (Ahead w.hir todo) → (g < n₀) × OkFunction (function_at w.hir g)
      pub own : Ok type (backwards todo ++ w.members)
      pub jsx : AllElements w.members
      pub loads : (i : InstructionV) → Lists w.globals i → LoadOk type i

    abbrev ahead_of : Walk → List InstructionV → Counts
    ahead_of w todo = ahead_counts d w.hir type w.members todo

    pub record RowKept (w : Walk) (todo : List InstructionV) (before : Counts) (t : ℕ) (h : Hir) : Type 0 where
      pub report : Report
      pub paid : Counts
      pub related : R h w.hir report t paid
      pub within : Le (plus paid (ahead_of w todo)) before
      pub fine : RowsFine w todo

    -- functions still to be reached are as they were
    ahead_same : (h s : Hir) (todo : List InstructionV) → ((g : ℕ) → In g (Ahead h todo) → function_at s g ≡ function_at h g) → Ahead s todo ≡ Ahead h todo
    ahead_same h s todo e = gathered_same (on_walk d s) (on_walk d h) (inner todo) (λ y i. same_walk h s d y (λ g q. e g (in_gather (on_walk d h) g y (inner todo) i q)))

    counts_same : (h s : Hir) (todo : List InstructionV) → ((g : ℕ) → In g (Ahead h todo) → function_at s g ≡ function_at h g) → tally (λ g. function_counts (function_at s g)) (Ahead s todo) ≡ tally (λ g. function_counts (function_at h g)) (Ahead h todo)
    counts_same h s todo e = ap (tally (λ g. function_counts (function_at s g))) (ahead_same h s todo e) ∙ tally_same (λ g. function_counts (function_at s g)) (λ g. function_counts (function_at h g)) (Ahead h todo) (λ g q. ap function_counts (e g q))

    -- what stays fine when functions still to be reached stay
    fine_same : (w v : Walk) (todo : List InstructionV) → length w.hir.functions ≤ length v.hir.functions → ((g : ℕ) → In g (Ahead w.hir todo) → function_at v.hir g ≡ function_at w.hir g)
        → n₀ ≤ length w.hir.functions → Distinct (Ahead w.hir todo) → ((g : ℕ) → In g (Ahead w.hir todo) → (g < n₀) × OkFunction (function_at w.hir g))
        → Ok type (backwards todo ++ v.members) → AllElements v.members → ((i : InstructionV) → Lists v.globals i → LoadOk type i) → RowsFine v todo
    fine_same w v todo l e big distinct each own jsx loads =
        let s = ahead_same w.hir v.hir todo e in
        record {
          big = omega arith;
          distinct = subst Distinct (sym s) distinct;
          each = λ g q. (let q' = subst (λ (x : List ℕ). In g x) s q in let a = each g q' in (a.0, subst OkFunction (sym (e g q')) a.1));
          own = own;
          jsx = jsx;
          loads = loads;
        }

    ahead_later : (h : Hir) (i : InstructionV) (todo : List InstructionV) → is_function i ≡ false → Ahead h (i ∷ todo) ≡ Ahead h todo
    ahead_later h i todo n = ap (gathered (on_walk d h)) (pick_false (is_function i) (i.function ∷ inner todo) (inner todo) n)

    own_order : (i : InstructionV) (todo ms : List InstructionV) → backwards (i ∷ todo) ++ ms ≡ backwards todo ++ (i ∷ ms)
    own_order i todo ms = append_assoc (backwards todo) (i ∷ []) ms

    module _ (w : Walk) (i : InstructionV) (todo : List InstructionV) (a : RowsFine w (i ∷ todo)) where
      own_joined : Ok type (backwards todo ++ (i ∷ w.members))
      own_joined = subst (Ok type) (own_order i todo w.members) a.own

      own_later : Ok type (backwards todo ++ w.members)
      own_later = kept.ok_sub (sub-++ (sub_refl (backwards todo)) (skips (sub_refl w.members))) own_joined

      own_first : Ok type (backwards todo ++ (i ∷ []))
      own_first = kept.ok_sub (sub-++ (sub_refl (backwards todo)) (keeps (sub_empty w.members))) own_joined

      own_members : Ok type w.members
      own_members = kept.ok_sub (sub_front (backwards (i ∷ todo)) (sub_refl w.members)) a.own

      -- rows other than inner functions: the store may grow, but keeps its functions
      plain : (v : Walk) (n : is_function i ≡ false) (t : ℕ) (paid : Counts) (r : Report) → R w.hir v.hir r t paid
          → length w.hir.functions ≤ length v.hir.functions → ((g : ℕ) → g < length w.hir.functions → function_at v.hir g ≡ function_at w.hir g)
          → Le (plus paid (outside_components type (open_counts todo v.members))) (outside_components type (open_counts (i ∷ todo) w.members))
          → Ok type (backwards todo ++ v.members) → AllElements v.members → ((j : InstructionV) → Lists v.globals j → LoadOk type j) → RowKept v todo (ahead_of w (i ∷ todo)) t w.hir
      plain v n t paid r q l e le own jsx loads =
          let s = ahead_later w.hir i todo n in
          let in_s : (g : ℕ) → In g (Ahead w.hir todo) → In g (Ahead w.hir (i ∷ todo)) = λ g x. subst (λ (z : List ℕ). In g z) (sym s) x in
          let each : (g : ℕ) → In g (Ahead w.hir todo) → (g < n₀) × OkFunction (function_at w.hir g) = λ g x. a.each g (in_s g x) in
          let big = a.big in
          let same : (g : ℕ) → In g (Ahead w.hir todo) → function_at v.hir g ≡ function_at w.hir g = λ g x. e g (let y = (each g x).0 in omega arith) in
          let c₁ = le_same (tally (λ g. function_counts (function_at v.hir g)) (Ahead v.hir todo)) (tally (λ g. function_counts (function_at w.hir g)) (Ahead w.hir todo)) (counts_same w.hir v.hir todo same) in
          let c₂ = le_same (tally (λ g. function_counts (function_at w.hir g)) (Ahead w.hir todo)) (tally (λ g. function_counts (function_at w.hir g)) (Ahead w.hir (i ∷ todo))) (ap (tally (λ g. function_counts (function_at w.hir g))) (sym s)) in
          record {
            report = r;
            paid = paid;
            related = q;
            within = omega arith;
            fine = fine_same w v todo l same big (subst Distinct s a.distinct) each own jsx loads;
          }

      here_listed : Lists (backwards (i ∷ todo) ++ w.members) i
      here_listed = lists_left w.members (lists_right (backwards todo) here)

      pub row_kept : RowKept (passed (outline_jsx_impl d m) type w i) todo (ahead_of w (i ∷ todo)) (passing p (takes p d m) type w i) w.hir
      row_kept = passing_ways (λ v t. RowKept v todo (ahead_of w (i ∷ todo)) t w.hir) p (outline_jsx_impl d m) (takes p d m) type w i
          (λ g. plain (with_load w i) (ap (λ (x : ℕ). eqb x 31) (eqb-true i.kind 29 g)) 0 no_counts nothing (kept.same w.hir) (omega arith) (λ g' l. refl)
          (let lo = outside_le type (open_counts todo w.members) (open_counts (i ∷ todo) w.members) (omega arith) in omega arith)
          own_later a.jsx (λ j l. elim (lists_head l) [ inl e ↦ subst (LoadOk type) (sym e) (kept.ok_load type (backwards (i ∷ todo) ++ w.members) i a.own here_listed g) | inr k ↦ a.loads j k ]))
          (λ _ h.
          let x = i.function in
          let mine = on_walk d w.hir x in
          let s : Ahead w.hir (i ∷ todo) ≡ mine ++ Ahead w.hir todo = ap (gathered (on_walk d w.hir)) (pick_true (is_function i) (x ∷ inner todo) (inner todo) h) in
          let dist = subst Distinct s a.distinct in
          let each : (g : ℕ) → In g (mine ++ Ahead w.hir todo) → (g < n₀) × OkFunction (function_at w.hir g) = λ g q. a.each g (subst (λ (z : List ℕ). In g z) (sym s) q) in
          let res = walk_kept d w.hir x a.big (record { distinct = distinct_left mine (Ahead w.hir todo) dist; each = λ g q. each g (in_left g mine (Ahead w.hir todo) q) }) in
          let v = with_outcome w (outline_jsx_impl d m w.hir x) in
          let big = a.big in
          let same : (g : ℕ) → In g (Ahead w.hir todo) → function_at v.hir g ≡ function_at w.hir g = λ g q. res.untouched g (out_if g mine (λ y. in_out g (Ahead w.hir todo) q (distinct_apart g mine (Ahead w.hir todo) dist y))) (let y = (each g (in_right g mine (Ahead w.hir todo) q)).0 in omega arith) in
          let cw : ℕ → Counts = λ g. function_counts (function_at w.hir g) in
          let c₁ = le_same (tally (λ g. function_counts (function_at v.hir g)) (Ahead v.hir todo)) (tally cw (Ahead w.hir todo)) (counts_same w.hir v.hir todo same) in
          let c₂ = (tally-++ cw mine (Ahead w.hir todo)).0 in
          let c₃ = le_same (tally cw (mine ++ Ahead w.hir todo)) (tally cw (Ahead w.hir (i ∷ todo))) (ap (tally cw) (sym s)) in
          let lo = outside_le type (open_counts todo w.members) (open_counts (i ∷ todo) w.members) (omega arith) in
          record {
            report = (outline_jsx_impl d m w.hir x).report;
            paid = walk_counts d w.hir x;
            related = res.related;
            within = omega arith;
            fine = fine_same w v todo res.growing same big (distinct_right mine (Ahead w.hir todo) dist) (λ g q. each g (in_right g mine (Ahead w.hir todo) q)) own_later a.jsx a.loads;
          })
          (λ _ h j _. plain (joined w i) h 0 no_counts nothing (kept.same w.hir) (omega arith) (λ g' l. refl)
          (let lo = outside_le type (open_counts todo (i ∷ w.members)) (open_counts (i ∷ todo) w.members) (omega arith) in omega arith)
          own_joined (λ k l. elim (lists_head l) [ inl e ↦ subst (λ (z : InstructionV). is_element z ≡ true) (sym e) j | inr l' ↦ a.jsx k l' ]) a.loads)
          (λ _ h j _.
          let ms = w.members in
          let o = process_jsx_group type w.globals ms w.hir in
          plain (joined (process_and_outline_jsx type w) i) h (closing p type w) (outside_components type (closing_counts ms)) o.report (close_related type w.globals ms w.hir a.loads a.jsx own_members)
          (close_onward type w.globals ms w.hir).functions (λ g' l. close_keeps type w.globals ms w.hir g' l)
          (outside_two type (closing_counts ms) (open_counts todo (i ∷ [])) (open_counts (i ∷ todo) ms) (open_close todo ms i j a.jsx))
          own_first (λ k l. elim (lists_head l) [ inl e ↦ subst (λ (z : InstructionV). is_element z ≡ true) (sym e) j | inr l' ↦ lists_none l' ]) a.loads)
          (λ _ h e. plain w h 0 no_counts nothing (kept.same w.hir) (omega arith) (λ g' l. refl)
          (let lo = outside_le type (open_counts todo w.members) (open_counts (i ∷ todo) w.members) (omega arith) in omega arith)
          own_later a.jsx a.loads)

    -- at the block's start the open group closes
    pub record LastKept (w : Walk) : Type 0 where
      pub paid : Counts
      pub related : R w.hir (process_and_outline_jsx type w).hir (process_jsx_group type w.globals w.members w.hir).report (closing p type w) paid
      pub within : Le paid (ahead_of w [])

    pub last_kept : (w : Walk) → RowsFine w [] → LastKept w
    last_kept w a =
        let ms = w.members in
        let lo = outside_le type (closing_counts ms) (open_counts [] ms) (open_last ms a.jsx) in
        record { paid = outside_components type (closing_counts ms); related = close_related type w.globals ms w.hir a.loads a.jsx a.own; within = omega arith }
