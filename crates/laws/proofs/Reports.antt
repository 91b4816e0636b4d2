-- The report counts functions, tags and properties exactly.
use Rattle.std.proofs.Common.{◌≡◌, ℕ, zero, suc, ◌+◌, ◌<◌, ◌≤◌, Bool, true, false, eqb, List, [], ◌∷◌, ◌++◌, map, length, drop, sym, refl, ap, ◌∙◌, subst, inl, inr, arith, length-append}
use Rattle.std.proofs.lemmas.List.{get_or_push, append-nil, drop-append-le}
use Rattle.std.proofs.lemmas.Bool.{cases_lt, eqb-true}
use Rattle.rules.specs.Lists.{select, gathered, changed, Lists, here, there}
use Rattle.rules.specs.Views.{Bytes, PlaceV, InstructionV, FunctionV, NameV, Hir, is_written, is_element, is_global, no_function, function_at, rows_at, results, with_functions, with_blocks, with_rows, with_list, write}
use Rattle.rules.specs.Props.{OutlinedJsxAttribute, promote, fresh, collect_props, Bound}
use Rattle.rules.specs.Emit.{bound_place, emit_updated_jsx, updated, Prepared, prepare, take_tag, emit_outlined_fn, Report, nothing, add, emit, process_jsx_group}
use Rattle.rules.specs.Eliminations.{Meaning, listing}
use Rattle.rules.specs.Outline.{rewritten, outline_jsx_impl, depth}
use Rattle.rules.proofs.Membership.{lists_none, lists_head, lists_split}
use Rattle.rules.proofs.Positions.{length_changed}
use Rattle.rules.proofs.Steps.{pick_false}
use Rattle.laws.specs.Staying.{Onward, SameFunction}
use Rattle.laws.specs.Reports.{is_destructure, properties_of, properties_in, EveryReportCounts, EveryPropertyCounted}
use Rattle.laws.specs.Allowances.{Counts, no_counts}
use Rattle.laws.proofs.Ways.{promote_ways, close_ways, emit_ways}
use Rattle.laws.proofs.Groups.{collect_on, prepared_on}
use Rattle.laws.proofs.Onward.{walked_on}
use Rattle.laws.proofs.Staying.{onward_refl, onward_then, close_onward, relists_onward}
use Rattle.laws.proofs.Walks.{free, Kept, Fine, walk_kept}

-- Only names and identifiers change.
pub record Quiet (a b : Hir) : Type 0 where
  pub functions : b.functions ≡ a.functions
  pub bears : b.bears ≡ a.bears
  pub used_rows : b.used_rows ≡ a.used_rows
  pub counter : b.counter ≡ a.counter
  pub mark : b.mark ≡ a.mark

pub quiet_refl : (h : Hir) → Quiet h h
quiet_refl h = record { functions = refl; bears = refl; used_rows = refl; counter = refl; mark = refl }

quiet_then : (a b c : Hir) → Quiet a b → Quiet b c → Quiet a c
quiet_then a b c p q = record { functions = q.functions ∙ p.functions; bears = q.bears ∙ p.bears; used_rows = q.used_rows ∙ p.used_rows; counter = q.counter ∙ p.counter; mark = q.mark ∙ p.mark }

quiet_write : (h : Hir) (made : Bytes) → Quiet h (write h made)
quiet_write h made = record { functions = refl; bears = refl; used_rows = refl; counter = refl; mark = refl }

quiet_promote : (h : Hir) (x : ℕ) → Quiet h (promote h x)
quiet_promote h x = promote_ways (Quiet h) h x (λ _. record { functions = refl; bears = refl; used_rows = refl; counter = refl; mark = refl }) (quiet_refl h)

quiet_fresh : (h : Hir) (n : NameV) → Quiet h (fresh h n)
quiet_fresh h n = record { functions = refl; bears = refl; used_rows = refl; counter = refl; mark = refl }

pub collect_quiet : (h : Hir) (ms : List InstructionV) → Quiet h (collect_props h ms).hir
collect_quiet = collect_on Quiet quiet_refl quiet_then quiet_write quiet_promote

pub prepare_quiet : (h : Hir) (es : List OutlinedJsxAttribute) → Quiet (take_tag h) (prepare h es).hir
prepare_quiet = prepared_on Quiet quiet_then quiet_write quiet_fresh

-- Functions and tags.

pub record Tallied (a b : Hir) (r : Report) : Type 0 where
  pub onward : Onward a b
  pub functions : length b.functions ≡ length a.functions + r.functions
  pub appended : (f : ℕ) → length a.functions ≤ f → f < length b.functions → (function_at b f).appended ≡ true
  pub tags : b.counter ≡ a.counter + (r.functions + r.abandoned)

tallied_refl : (h : Hir) → Tallied h h nothing
tallied_refl h = record { onward = onward_refl h; functions = omega arith; appended = λ f a b. absurd (omega arith); tags = omega arith }

tallied_then : (a b c : Hir) (r s : Report) → Tallied a b r → Tallied b c s → Tallied a c (add r s)
tallied_then a b c r s p q =
    let f₁ = p.functions in let f₂ = q.functions in let t₁ = p.tags in let t₂ = q.tags in
    record {
      onward = onward_then a b c p.onward q.onward;
      functions = omega arith;
      appended = λ f u v. elim (cases_lt f (length b.functions)) [
        | inl l ↦ ap (λ (g : FunctionV). g.appended) (q.onward.function f l).0 ∙ p.appended f u l
        | inr l ↦ q.appended f l v
      ];
      tags = omega arith;
    }

tallied_quiet : (a b : Hir) → Onward a b → Quiet a b → Tallied a b nothing
tallied_quiet a b o q =
    let e = ap (λ (l : List FunctionV). length l) q.functions in
    let t = q.counter in
    record { onward = o; functions = omega arith; appended = λ f u v. absurd (omega arith); tags = omega arith }

emit_tallied : (gs : List InstructionV) (m : InstructionV) (ms : List InstructionV) (h₀ h : Hir) (es : List OutlinedJsxAttribute) → Quiet h₀ h → Onward h₀ (emit gs m ms h es).hir → Tallied h₀ (emit gs m ms h es).hir (emit gs m ms h es).report
emit_tallied gs m ms h₀ h es q = emit_ways (λ o. Onward h₀ o.hir → Tallied h₀ o.hir o.report) gs m ms h es
    (λ on.
    let e = ap (λ (l : List FunctionV). length l) ((prepare_quiet h es).functions ∙ q.functions) in
    let t = (prepare_quiet h es).counter in let t₀ = q.counter in
    record { onward = on; functions = omega arith; appended = λ f u v. absurd (omega arith); tags = omega arith })
    (λ ls _ _ on.
    let t = prepare h es in
    let fs = t.hir.functions in
    let e = ap (λ (l : List FunctionV). length l) ((prepare_quiet h es).functions ∙ q.functions) in
    let l = length-append fs (emit_outlined_fn t m ms ls ∷ []) in
    let c = (prepare_quiet h es).counter in let c₀ = q.counter in
    record {
      onward = on;
      functions = omega arith;
      appended = λ f u v. (let s : length fs ≡ f = omega arith in ap (λ (g : FunctionV). g.appended) (get_or_push fs (emit_outlined_fn t m ms ls) no_function f s));
      tags = omega arith;
    })

close_tallied : (type : ℕ) (gs ms : List InstructionV) (h : Hir) → Tallied h (process_jsx_group type gs ms h).hir (process_jsx_group type gs ms h).report
close_tallied type gs [] h = tallied_refl h
close_tallied type gs (m ∷ []) h = tallied_refl h
close_tallied type gs (m ∷ n ∷ ms) h = close_ways (λ o. Onward h o.hir → Tallied h o.hir o.report) type gs m n ms h
    (λ _ _. tallied_refl h)
    (λ _ _ o. tallied_quiet h (collect_props h (m ∷ n ∷ ms)).hir o (collect_quiet h (m ∷ n ∷ ms)))
    (λ _ _. let g = collect_props h (m ∷ n ∷ ms) in emit_tallied gs m (n ∷ ms) h g.hir g.entries (collect_quiet h (m ∷ n ∷ ms)))
    (close_onward type gs (m ∷ n ∷ ms) h)

relists_tallied : (h : Hir) (f : ℕ) (Fn : FunctionV → FunctionV) → ((g : FunctionV) → SameFunction g (Fn g)) → Tallied h (with_functions h (changed Fn f h.functions)) nothing
relists_tallied h f Fn q =
    let l = length_changed Fn f h.functions in
    record { onward = relists_onward h f Fn q; functions = omega arith; appended = λ g u v. absurd (omega arith); tags = omega arith }

pub walk_tallied : (d : ℕ) (m : Meaning) (h : Hir) (f : ℕ) → Tallied h (outline_jsx_impl d m h f).hir (outline_jsx_impl d m h f).report
walk_tallied = walked_on Tallied tallied_refl tallied_then close_tallied relists_tallied

pub every_report_counts : EveryReportCounts
every_report_counts m h f =
    let t = walk_tallied depth m h f in
    record { functions = t.functions; appended = t.appended; tags = t.tags }

-- Properties.

select_none : (t : InstructionV → Bool) (is : List InstructionV) → ((i : InstructionV) → Lists is i → t i ≡ false) → select t is ≡ []
select_none t [] h = refl
select_none t (i ∷ is) h = pick_false (t i) (i ∷ select t is) (select t is) (h i here) ∙ select_none t is (λ j l. h j (there l))

bound_written : (t : List Bound) → length (select is_written (map bound_place t)) ≡ length t
bound_written [] = refl
bound_written (b ∷ t) = ap suc (bound_written t)

updated_plain : (ids : List ℕ) (t : List Bound) (ms : List InstructionV) → ((i : InstructionV) → Lists ms i → is_element i ≡ true) → (i : InstructionV) → Lists (map (updated ids t) ms) i → is_destructure i ≡ false
updated_plain ids t [] h i l = lists_none l
updated_plain ids t (m ∷ ms) h i l = elim (lists_head l) [
  | inl e ↦ ap (λ (z : InstructionV). is_destructure z) e ∙ ap (λ (n : ℕ). eqb n 7) (eqb-true m.kind 16 (h m here))
  | inr k ↦ updated_plain ids t ms (λ j q. h j (there q)) i k
]

-- the function binds a written place for each line of the table, and has no other Destructure
function_properties : (t : Prepared) (m : InstructionV) (ms ls : List InstructionV) → ((i : InstructionV) → Lists (m ∷ ms) i → is_element i ≡ true) → ((i : InstructionV) → Lists ls i → is_global i ≡ true) → properties_of (emit_outlined_fn t m ms ls) ≡ length t.table
function_properties t m ms ls h k =
    let rest = ls ++ emit_updated_jsx t.table (m ∷ ms) in
    let none : select is_destructure (rest ++ []) ≡ [] = ap (select is_destructure) (append-nil rest) ∙ select_none is_destructure rest (λ i l. elim (lists_split ls l) [
      | inl q ↦ ap (λ (n : ℕ). eqb n 7) (eqb-true i.kind 29 (k i q))
      | inr q ↦ updated_plain (results (m ∷ ms)) t.table (m ∷ ms) h i q
    ]) in
    let places : List InstructionV → List PlaceV = λ is. gathered (λ (i : InstructionV). i.places) is in
    ap (λ (is : List InstructionV). length (select is_written (map bound_place t.table ++ places is))) none
    ∙ ap (λ (ps : List PlaceV). length (select is_written ps)) (append-nil (map bound_place t.table))
    ∙ bound_written t.table

properties-++ : (fs gs : List FunctionV) → properties_in (fs ++ gs) ≡ properties_in fs + properties_in gs
properties-++ [] gs = omega arith
properties-++ (f ∷ fs) gs = let e = properties-++ fs gs in omega arith

drop_changed : (Fn : FunctionV → FunctionV) (f n : ℕ) (fs : List FunctionV) → f < n → drop n (changed Fn f fs) ≡ drop n fs
drop_changed Fn f zero fs l = absurd (omega arith)
drop_changed Fn f (suc n) [] l = refl
drop_changed Fn zero (suc n) (g ∷ fs) l = refl
drop_changed Fn (suc f) (suc n) (g ∷ fs) l = drop_changed Fn f n fs (omega arith)

module _ (n₀ : ℕ) where
  -- the functions from n₀ on bind what the report says
  abbrev BoundBy : Hir → Hir → Report → ℕ → Counts → Type 0
  BoundBy a b r s c = n₀ ≤ length a.functions → (n₀ ≤ length b.functions) × (properties_in (drop n₀ b.functions) ≡ properties_in (drop n₀ a.functions) + r.properties)

  bound_same : (a b : Hir) → b.functions ≡ a.functions → (n₀ ≤ length a.functions → (n₀ ≤ length b.functions) × (properties_in (drop n₀ b.functions) ≡ properties_in (drop n₀ a.functions) + 0))
  bound_same a b e l =
      let q = ap (λ (fs : List FunctionV). properties_in (drop n₀ fs)) e in
      (subst (λ (fs : List FunctionV). n₀ ≤ length fs) (sym e) l, omega arith)

  emit_bound : (gs : List InstructionV) (m : InstructionV) (ms : List InstructionV) (h₀ h : Hir) (es : List OutlinedJsxAttribute) → ((i : InstructionV) → Lists gs i → is_global i ≡ true) → ((i : InstructionV) → Lists (m ∷ ms) i → is_element i ≡ true) → h.functions ≡ h₀.functions → BoundBy h₀ (emit gs m ms h es).hir (emit gs m ms h es).report 0 no_counts
  emit_bound gs m ms h₀ h es g j e = emit_ways (λ o. BoundBy h₀ o.hir o.report 0 no_counts) gs m ms h es
      (bound_same h₀ (prepare h es).hir ((prepare_quiet h es).functions ∙ e))
      (λ ls _ from l.
      let t = prepare h es in
      let fn = emit_outlined_fn t m ms ls in
      let s = (prepare_quiet h es).functions ∙ e in
      let l' : n₀ ≤ length t.hir.functions = subst (λ (fs : List FunctionV). n₀ ≤ length fs) (sym s) l in
      let k = length-append t.hir.functions (fn ∷ []) in
      let p = ap properties_in (drop-append-le n₀ t.hir.functions (fn ∷ []) l') ∙ properties-++ (drop n₀ t.hir.functions) (fn ∷ []) in
      let q = ap (λ (fs : List FunctionV). properties_in (drop n₀ fs)) s in
      let w = function_properties t m ms ls j (λ i x. g i (from i x)) in
      (omega arith, omega arith))

  bound_kept : (m : Meaning) → Kept m n₀ free (λ type rows. Unit) (λ type i. is_global i ≡ true) BoundBy
  bound_kept m = record {
    ok_sub = λ s o. tt;
    ok_load = λ type rows i o l g. g;
    same = λ h. bound_same h h refl;
    then = λ p q l. (let x = p l in let y = q x.0 in let a = x.1 in let b = y.1 in (y.0, omega arith));
    more = λ u v l p. p;
    idle = λ h. refl;
    closes = λ type gs a b ms h t l j o. close_ways (λ x. BoundBy h x.hir x.report 0 no_counts) type gs a b ms h
        (λ _. bound_same h h refl)
        (λ _ _. bound_same h (collect_props h (a ∷ b ∷ ms)).hir (collect_quiet h (a ∷ b ∷ ms)).functions)
        (λ _ _. let g = collect_props h (a ∷ b ∷ ms) in emit_bound gs a (b ∷ ms) h g.hir g.entries l j (collect_quiet h (a ∷ b ∷ ms)).functions);
    relists = λ h f k w ws low big type yes o two many l.
        let rows = rewritten (w ∷ ws) (rows_at h f k) in
        let h₁ = with_list h f k rows in
        let Fn₁ : FunctionV → FunctionV = λ g. with_blocks g (changed (λ b. with_rows b rows) k g.blocks) in
        let Fn₂ : FunctionV → FunctionV = λ g. with_blocks g (listing g.blocks (m h₁ f)) in
        let l₁ = length_changed Fn₁ f h.functions in
        let l₂ = length_changed Fn₂ f h₁.functions in
        let e = ap properties_in (drop_changed Fn₂ f n₀ h₁.functions low ∙ drop_changed Fn₁ f n₀ h.functions low) in
        (omega arith, omega arith);
  }

drop_all : (fs : List FunctionV) → properties_in (drop (length fs) fs) ≡ 0
drop_all [] = refl
drop_all (f ∷ fs) = drop_all fs

pub every_property_counted : EveryPropertyCounted
every_property_counted m lawful h f a =
    let n₀ = length h.functions in
    let fine : Fine m lawful n₀ free (λ type rows. Unit) (λ type i. is_global i ≡ true) (BoundBy n₀) (bound_kept n₀ m) depth h f = record { distinct = a.once; each = λ g q. (a.used g q, λ j. tt) } in
    let r = (walk_kept m lawful n₀ free (λ type rows. Unit) (λ type i. is_global i ≡ true) (BoundBy n₀) (bound_kept n₀ m) depth h f (omega arith) fine).related (omega arith) in
    let z = drop_all h.functions in
    let e = r.1 in
    omega arith
