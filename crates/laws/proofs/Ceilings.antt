-- On a store within the limits: the text, the tag counter and the tag mark stay below their ceilings.
use Rattle.std.proofs.Common.{◌≡◌, ℕ, zero, suc, ◌+◌, ◌^◌, ◌<◌, ◌≤◌, false, eqb, List, [], ◌∷◌, length, sym, refl, ap, subst, inl, inr, arith}
use Rattle.std.proofs.lemmas.List.{get_or_past}
use Rattle.std.proofs.lemmas.Bool.{or_cases, both_ways, eqb-true, cases_lt}
use Rattle.rules.specs.Lists.{within, changed}
use Rattle.rules.specs.Views.{InstructionV, BlockV, FunctionV, IdentifierV, Hir, block_rows, rows_at, function_at, with_rows, with_blocks, with_list}
use Rattle.rules.specs.Props.{no_identifier, collect_props}
use Rattle.rules.specs.Emit.{process_jsx_group}
use Rattle.rules.specs.Eliminations.{Meaning, listing}
use Rattle.rules.specs.Outline.{rewritten, outline_jsx, depth}
use Rattle.rules.specs.Drawn.{on_walk}
use Rattle.rules.proofs.Membership.{In}
use Rattle.rules.proofs.Steps.{pick_false}
use Rattle.laws.specs.Staying.{Onward}
use Rattle.laws.specs.Allowances.{Counts, no_counts, rows_counts, blocks_counts, function_counts, tally, walk_counts, text_allowed}
use Rattle.laws.specs.Sufficing.{OfEveryWalk}
use Rattle.laws.specs.Ceilings.{TextSuffices, CounterBelow, MarkBelow, MarkRises}
use Rattle.laws.proofs.Ways.{close_ways, emit_ways}
use Rattle.laws.proofs.Onward.{same_changed, same_listing}
use Rattle.laws.proofs.Staying.{onward_refl, onward_then, close_onward, relists_onward}
use Rattle.laws.proofs.Reports.{walk_tallied}
use Rattle.laws.proofs.Counting.{Le, le_refl, rows_sub}
use Rattle.laws.proofs.Walks.{free, Kept, walk_kept}
use Rattle.laws.proofs.Marks.{mark_below_names}
use Rattle.laws.proofs.Texts.{Declared, onward_declared, group_text}
use Rattle.laws.proofs.Sufficing.{identifiers_suffice, instructions_suffice}

-- The counts of a block are within those of the walk.

block_within : (bs : List BlockV) (j : ℕ) → Le (rows_counts (block_rows bs j)) (blocks_counts bs)
block_within [] j = le_refl no_counts
block_within (b ∷ bs) zero = omega arith
block_within (b ∷ bs) (suc j) = let q = block_within bs j in omega arith

tally_within : (c : ℕ → Counts) (g : ℕ) (xs : List ℕ) → In g xs → Le (c g) (tally c xs)
tally_within c g [] h = absurd (both_ways false refl h)
tally_within c g (x ∷ xs) h = elim (or_cases (eqb g x) (within g xs) h) [
  | inl e ↦ subst (λ y. Le (c y) (tally c (x ∷ xs))) (sym (eqb-true g x e)) (omega arith)
  | inr k ↦ (let q = tally_within c g xs k in omega arith)
]

-- Text.

pub record Written (a b : Hir) (c : Counts) : Type 0 where
  pub onward : Onward a b
  pub text : length b.identifiers ≤ 65535 → b.mark < 10 ^ 20 → Declared a → length b.text ≤ length a.text + text_allowed c

abbrev Ok : ℕ → List InstructionV → Type 0
Ok type rows = eqb type 0 ≡ false → (rows_counts rows).attributes + (rows_counts rows).children ≤ 65535

written_kept : (m : Meaning) (n₀ : ℕ) → Kept m n₀ free Ok (λ type i. Unit) (λ a b r s c. Written a b c)
written_kept m n₀ = record {
  ok_sub = λ s o t. (let q = rows_sub s in let l = o t in omega arith);
  ok_load = λ type rows i o l g. tt;
  same = λ h. record { onward = onward_refl h; text = λ i k d. omega arith };
  then = λ {a} {b} {c} p q. record {
    onward = onward_then a b c p.onward q.onward;
    text = λ i k d.
        let x = q.onward.identifiers in let y = q.onward.mark in
        let t = p.text (omega arith) (omega arith) d in
        let u = q.text i k (onward_declared a b p.onward (omega arith) d) in
        omega arith;
  };
  more = λ u v l p. record { onward = p.onward; text = λ i k d. (let t = p.text i k d in let l₁ = l.attributes in let l₂ = l.children in let l₃ = l.pairs in let l₄ = l.letters in omega arith) };
  idle = λ h. refl;
  closes = λ type gs a b ms h t l j o. record { onward = close_onward type gs (a ∷ b ∷ ms) h; text = λ i k d. (let q = group_text type gs a b ms h j d (o t) i k in omega arith) };
  relists = λ h f k w ws low big type yes o two many.
      let rows = rewritten (w ∷ ws) (rows_at h f k) in
      let h₁ = with_list h f k rows in
      let Fn₁ : FunctionV → FunctionV = λ g. with_blocks g (changed (λ b. with_rows b rows) k g.blocks) in
      let Fn₂ : FunctionV → FunctionV = λ g. with_blocks g (listing g.blocks (m h₁ f)) in
      record {
        onward = onward_then h h₁ _ (relists_onward h f Fn₁ (λ g. (refl, same_changed rows k g.blocks))) (relists_onward h₁ f Fn₂ (λ g. (refl, same_listing g.blocks (m h₁ f))));
        text = λ i k d. omega arith;
      };
}

-- Tags.

close_tags : (type : ℕ) (gs : List InstructionV) (a b : InstructionV) (ms : List InstructionV) (h : Hir) → (process_jsx_group type gs (a ∷ b ∷ ms) h).report.functions + (process_jsx_group type gs (a ∷ b ∷ ms) h).report.abandoned ≤ 1
close_tags type gs a b ms h = close_ways (λ o. o.report.functions + o.report.abandoned ≤ 1) type gs a b ms h (λ _. omega arith) (λ _ _. omega arith)
    (λ _ _. emit_ways (λ o. o.report.functions + o.report.abandoned ≤ 1) gs a (b ∷ ms) (collect_props h (a ∷ b ∷ ms)).hir (collect_props h (a ∷ b ∷ ms)).entries (omega arith) (λ ls _ _. omega arith))

tags_kept : (m : Meaning) (n₀ : ℕ) → Kept m n₀ free (λ type rows. Unit) (λ type i. Unit) (λ a b r s c. r.functions + r.abandoned ≤ c.pairs)
tags_kept m n₀ = record {
  ok_sub = λ s o. tt;
  ok_load = λ type rows i o l g. tt;
  same = λ h. omega arith;
  then = λ p q. omega arith;
  more = λ u v l p. (let x = l.pairs in omega arith);
  idle = λ h. refl;
  closes = λ type gs a b ms h t l j o. (let q = close_tags type gs a b ms h in omega arith);
  relists = λ h f k w ws low big type yes o two many. omega arith;
}

tags_few : OfEveryWalk (λ m h f. (outline_jsx m h f).report.functions + (outline_jsx m h f).report.abandoned ≤ (walk_counts depth h f).pairs)
tags_few m lawful h f a w =
    let n₀ = length h.functions in
    (walk_kept m lawful n₀ free (λ type rows. Unit) (λ type i. Unit) (λ a b r s c. r.functions + r.abandoned ≤ c.pairs) (tags_kept m n₀) depth h f (omega arith) (record { distinct = a.once; each = λ g q. (a.used g q, λ j. tt) })).related

pub counter_below : CounterBelow
counter_below m lawful h f a w l =
    let few = tags_few m lawful h f a w in
    let tallied = (walk_tallied depth m h f).tags in
    let lf = l.functions in let lc = l.counter in
    omega arith

pub mark_rises : MarkRises
mark_rises = mark_below_names depth

pub mark_below : MarkBelow
mark_below m lawful h f a w l =
    let few = tags_few m lawful h f a w in
    let rises = mark_rises m h f l.borne in
    let si = identifiers_suffice m lawful h f a w in
    let su = instructions_suffice m lawful h f a w in
    let li = l.identifiers in let lu = l.instructions in let lf = l.functions in let lm = l.mark in
    omega arith

pub text_suffices : TextSuffices
text_suffices m lawful h f a w l =
    let n₀ = length h.functions in
    let below = mark_below m lawful h f a w l in
    let si = identifiers_suffice m lawful h f a w in
    let li = l.identifiers in
    let declared : Declared h = λ x. elim (cases_lt x (length h.identifiers)) [
      | inl t ↦ l.declarations x t
      | inr t ↦ (let e = ap (λ (i : IdentifierV). i.declaration) (get_or_past h.identifiers x no_identifier t) in omega arith)
    ] in
    let each : (g : ℕ) → In g (on_walk depth h f) → (g < n₀) × ((j : ℕ) → Ok (function_at h g).type (block_rows (function_at h g).blocks j)) = λ g q. (
      a.used g q,
      λ j t.
          let x = block_within (function_at h g).blocks j in
          let y = tally_within (λ k. function_counts (function_at h k)) g (on_walk depth h f) q in
          let z : function_counts (function_at h g) ≡ blocks_counts (function_at h g).blocks = pick_false (eqb (function_at h g).type 0) no_counts (blocks_counts (function_at h g).blocks) t in
          let za = ap (λ (c : Counts). c.attributes) z in let zc = ap (λ (c : Counts). c.children) z in
          let xa = x.attributes in let xc = x.children in let ya = y.attributes in let yc = y.children in
          omega arith,
    ) in
    let big : 10 ^ 20 ≡ 100000000000000000000 = refl in
    (walk_kept m lawful n₀ free Ok (λ type i. Unit) (λ a b r s c. Written a b c) (written_kept m n₀) depth h f (omega arith) (record { distinct = a.once; each = each })).related.text (omega arith) (omega arith) declared
