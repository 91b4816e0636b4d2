-- The allowances suffice.
use Rattle.std.proofs.Common.{◌≡◌, ℕ, zero, suc, ◌+◌, ◌<◌, ◌≤◌, Bool, true, false, ◌&&◌, eqb, List, [], ◌∷◌, length, sym, refl, ap, ◌∙◌, subst, inl, inr, arith, length-append}
use Rattle.std.proofs.lemmas.Bool.{cases_Bool, and_parts, eqb-true}
use Rattle.rules.specs.Lists.{select, gathered, changed, Distinct, Lists, here, there, Sublist}
use Rattle.rules.specs.Views.{InstructionV, FunctionV, Hir, is_element, is_written, identifiers_of, writes, block_rows, rows_at, function_at, with_rows, with_blocks, with_list}
use Rattle.rules.specs.Emit.{Rewrite}
use Rattle.rules.specs.Eliminations.{Meaning, listing}
use Rattle.rules.specs.Outline.{rewritten_row, rewritten, outline_jsx, depth}
use Rattle.rules.specs.Drawn.{Accepts, on_walk}
use Rattle.rules.proofs.Blocks.{listing_length, block_distinct}
use Rattle.rules.proofs.Membership.{In, Out, in_out, in_head, out_parts, distinct_right, distinct_apart}
use Rattle.rules.proofs.Positions.{length_changed, block_lists}
use Rattle.rules.proofs.Steps.{pick_true, pick_false}
use Rattle.rules.proofs.Sublists.{sub_lists, sub_distinct, sub_gathered}
use Rattle.laws.specs.Allowances.{Counts, walk_counts, identifiers_allowed, instructions_allowed, numbers_allowed, places_allowed, blocks_allowed, functions_allowed}
use Rattle.laws.specs.Taking.{numbers, places}
use Rattle.laws.specs.Sufficing.{WalkFormed, blocks_in, OfEveryWalk, IdentifiersSuffice, InstructionsSuffice, BlocksSuffice, FunctionsSuffice, NumbersSuffice, PlacesSuffice}
use Rattle.laws.proofs.Walks.{free, Kept, walk_kept}
use Rattle.laws.proofs.Costs.{AllFormed, group_cost}

-- A block's new list has a row more for each call.

abbrev hit : Rewrite → InstructionV → Bool
hit r i = is_element i && eqb r.root i.result.identifier

abbrev hits : Rewrite → List InstructionV → ℕ
hits r is = length (select (hit r) is)

own_write : (i : InstructionV) → In i.result.identifier (writes i)
own_write i = in_head i.result.identifier (identifiers_of (select is_written i.places))

no_hits : (r : Rewrite) (is : List InstructionV) → Out r.root (gathered writes is) → hits r is ≡ 0
no_hits r [] o = refl
no_hits r (i ∷ is) o =
    let q = out_parts r.root (writes i) (gathered writes is) o in
    let n : hit r i ≡ false = elim (cases_Bool (hit r i)) [
      | inl e ↦ in_out r.root (writes i) (subst (λ x. In x (writes i)) (sym (eqb-true r.root i.result.identifier (and_parts (is_element i) (eqb r.root i.result.identifier) e).1)) (own_write i)) q.0
      | inr e ↦ e
    ] in
    ap (λ (l : List InstructionV). length l) (pick_false (hit r i) (i ∷ select (hit r) is) (select (hit r) is) n) ∙ no_hits r is q.1

one_hit : (r : Rewrite) (is : List InstructionV) → Distinct (gathered writes is) → hits r is ≤ 1
one_hit r [] d = omega arith
one_hit r (i ∷ is) d =
    let q = one_hit r is (distinct_right (writes i) (gathered writes is) d) in
    elim (cases_Bool (hit r i)) [
      | inl e ↦
          let x = ap (λ (l : List InstructionV). length l) (pick_true (hit r i) (i ∷ select (hit r) is) (select (hit r) is) e) in
          let s = eqb-true r.root i.result.identifier (and_parts (is_element i) (eqb r.root i.result.identifier) e).1 in
          let z = no_hits r is (subst (λ y. Out y (gathered writes is)) (sym s) (distinct_apart i.result.identifier (writes i) (gathered writes is) d (own_write i))) in
          omega arith
      | inr e ↦ (let x = ap (λ (l : List InstructionV). length l) (pick_false (hit r i) (i ∷ select (hit r) is) (select (hit r) is) e) in omega arith)
    ]

abbrev Twos : List Rewrite → Type 0
Twos ws = (v : Rewrite) → Lists ws v → length v.rows ≡ 2

row_some : (ws : List Rewrite) (i : InstructionV) → Twos ws → 1 ≤ length (rewritten_row ws i)
row_some [] i t = omega arith
row_some (r ∷ ws) i t =
    let a = t r here in
    let q = row_some ws i (λ v l. t v (there l)) in
    elim (hit r i) as (λ b. 1 ≤ length (elim b as (λ _. List InstructionV) [ true ↦ r.rows | false ↦ rewritten_row ws i ])) [ true ↦ omega arith | false ↦ q ]

more_rows : (r : Rewrite) (ws : List Rewrite) (is : List InstructionV) → Twos (r ∷ ws) → length (rewritten (r ∷ ws) is) ≤ length (rewritten ws is) + hits r is
more_rows r ws [] t = omega arith
more_rows r ws (i ∷ is) t =
    let q = more_rows r ws is t in
    let a = t r here in
    let s = row_some ws i (λ v l. t v (there l)) in
    let l₁ = length-append (rewritten_row (r ∷ ws) i) (rewritten (r ∷ ws) is) in
    let l₂ = length-append (rewritten_row ws i) (rewritten ws is) in
    elim (cases_Bool (hit r i)) [
      | inl e ↦
          let x = ap (λ (l : List InstructionV). length l) (pick_true (hit r i) (i ∷ select (hit r) is) (select (hit r) is) e) in
          let y = ap (λ (l : List InstructionV). length l) (pick_true (hit r i) r.rows (rewritten_row ws i) e) in
          omega arith
      | inr e ↦
          let x = ap (λ (l : List InstructionV). length l) (pick_false (hit r i) (i ∷ select (hit r) is) (select (hit r) is) e) in
          let y = ap (λ (l : List InstructionV). length l) (pick_false (hit r i) r.rows (rewritten_row ws i) e) in
          omega arith
    ]

same_rows : (is : List InstructionV) → length (rewritten [] is) ≡ length is
same_rows [] = refl
same_rows (i ∷ is) = ap suc (same_rows is)

pub rewritten_length : (ws : List Rewrite) (is : List InstructionV) → Twos ws → Distinct (gathered writes is) → length (rewritten ws is) ≤ length is + length ws
rewritten_length [] is t d = let e = same_rows is in omega arith
rewritten_length (r ∷ ws) is t d =
    let a = more_rows r ws is t in
    let b = one_hit r is d in
    let c = rewritten_length ws is (λ v l. t v (there l)) d in
    omega arith

-- The tables that the view shows.

pub record Shown (a b : Hir) (c : Counts) : Type 0 where
  pub identifiers : length b.identifiers ≤ length a.identifiers + identifiers_allowed c
  pub instructions : b.used_rows ≤ a.used_rows + instructions_allowed c
  pub blocks : blocks_in b.functions ≤ blocks_in a.functions + blocks_allowed c
  pub functions : length b.functions ≤ length a.functions + functions_allowed c

abbrev pub Ok : ℕ → List InstructionV → Type 0
Ok type rows = AllFormed rows × Distinct (gathered writes rows)

abbrev pub LoadOk : ℕ → InstructionV → Type 0
LoadOk type i = i.places ≡ []

ok_part : (type : ℕ) (xs ys : List InstructionV) → Sublist xs ys → Ok type ys → Ok type xs
ok_part type xs ys s o = ((λ i l. o.0 i (sub_lists s l)), sub_distinct (sub_gathered writes s) o.1)

blocks_changed : (Fn : FunctionV → FunctionV) → ((g : FunctionV) → length (Fn g).blocks ≡ length g.blocks) → (f : ℕ) (fs : List FunctionV) → blocks_in (changed Fn f fs) ≡ blocks_in fs
blocks_changed Fn e zero [] = refl
blocks_changed Fn e (suc f) [] = refl
blocks_changed Fn e zero (g ∷ fs) = let q = e g in omega arith
blocks_changed Fn e (suc f) (g ∷ fs) = let q = blocks_changed Fn e f fs in omega arith

pub shown_kept : (m : Meaning) (n₀ : ℕ) → Kept m n₀ free Ok LoadOk (λ a b r s c. Shown a b c)
shown_kept m n₀ = record {
  ok_sub = λ {type} {xs} {ys} s o. ok_part type xs ys s o;
  ok_load = λ type rows i o l g. (o.0 i l).load g;
  same = λ h. record { identifiers = omega arith; instructions = omega arith; blocks = omega arith; functions = omega arith };
  then = λ p q. (let a = p.identifiers in let b = q.identifiers in let c = p.instructions in let d = q.instructions in let e = p.blocks in let f = q.blocks in let g = p.functions in let h = q.functions in record { identifiers = omega arith; instructions = omega arith; blocks = omega arith; functions = omega arith });
  more = λ u v l p. (let a = p.identifiers in let c = p.instructions in let e = p.blocks in let g = p.functions in let l₁ = l.attributes in let l₂ = l.children in let l₃ = l.elements in let l₄ = l.pairs in record { identifiers = omega arith; instructions = omega arith; blocks = omega arith; functions = omega arith });
  idle = λ h. refl;
  closes = λ type gs a b ms h t l j o.
      let q = group_cost type gs a b ms h l j o.0 in
      let i = q.identifiers in let u = q.used_rows in let bl = q.blocks in let f = q.functions in
      record { identifiers = omega arith; instructions = omega arith; blocks = omega arith; functions = omega arith };
  relists = λ h f k w ws low big type yes o two many.
      let rows = rewritten (w ∷ ws) (rows_at h f k) in
      let h₁ = with_list h f k rows in
      let Fn₁ : FunctionV → FunctionV = λ g. with_blocks g (changed (λ b. with_rows b rows) k g.blocks) in
      let Fn₂ : FunctionV → FunctionV = λ g. with_blocks g (listing g.blocks (m h₁ f)) in
      let l₁ = length_changed Fn₁ f h.functions in
      let l₂ = length_changed Fn₂ f h₁.functions in
      let b₁ = blocks_changed Fn₁ (λ g. length_changed (λ b. with_rows b rows) k g.blocks) f h.functions in
      let b₂ = blocks_changed Fn₂ (λ g. listing_length g.blocks (m h₁ f)) f h₁.functions in
      record { identifiers = omega arith; instructions = omega arith; blocks = omega arith; functions = omega arith };
}

-- List numbers and places.

pub numbers_kept : (m : Meaning) (n₀ : ℕ) → Kept m n₀ numbers Ok LoadOk (λ a b r s c. s ≤ numbers_allowed c)
numbers_kept m n₀ = record {
  ok_sub = λ {type} {xs} {ys} s o. ok_part type xs ys s o;
  ok_load = λ type rows i o l g. (o.0 i l).load g;
  same = λ h. omega arith;
  then = λ p q. omega arith;
  more = λ u v l p. (let l₃ = l.elements in let l₄ = l.pairs in let l₅ = l.listed in omega arith);
  idle = λ h. refl;
  closes = λ type gs a b ms h t l j o. (let q = (group_cost type gs a b ms h l j o.0).numbers in omega arith);
  relists = λ h f k w ws low big type yes o two many. (let q = rewritten_length (w ∷ ws) (rows_at h f k) two o.1 in omega arith);
}

pub places_kept : (m : Meaning) (n₀ : ℕ) → Kept m n₀ places Ok LoadOk (λ a b r s c. s ≤ places_allowed c)
places_kept m n₀ = record {
  ok_sub = λ {type} {xs} {ys} s o. ok_part type xs ys s o;
  ok_load = λ type rows i o l g. (o.0 i l).load g;
  same = λ h. omega arith;
  then = λ p q. omega arith;
  more = λ u v l p. (let l₁ = l.attributes in let l₂ = l.children in let l₃ = l.elements in let l₄ = l.pairs in omega arith);
  idle = λ h. refl;
  closes = λ type gs a b ms h t l j o. (let q = (group_cost type gs a b ms h l j o.0).places in omega arith);
  relists = λ h f k w ws low big type yes o two many. omega arith;
}

-- an accepted walk of rows of that form
pub ok_walk : (h : Hir) (f : ℕ) → Accepts h f → WalkFormed depth h f → (g : ℕ) → In g (on_walk depth h f) → (j : ℕ) → Ok (function_at h g).type (block_rows (function_at h g).blocks j)
ok_walk h f a w g i j = ((λ x l. w g i x (block_lists (function_at h g).blocks j l)), block_distinct (function_at h g).blocks j (a.sound g i).once)

fine_walk : (h : Hir) (f : ℕ) → Accepts h f → WalkFormed depth h f → (g : ℕ) → In g (on_walk depth h f) → (g < length h.functions) × ((j : ℕ) → Ok (function_at h g).type (block_rows (function_at h g).blocks j))
fine_walk h f a w g i = (a.used g i, ok_walk h f a w g i)

shown : OfEveryWalk (λ m h f. Shown h (outline_jsx m h f).hir (walk_counts depth h f))
shown m lawful h f a w =
    let n₀ = length h.functions in
    (walk_kept m lawful n₀ free Ok LoadOk (λ a b r s c. Shown a b c) (shown_kept m n₀) depth h f (omega arith) (record { distinct = a.once; each = fine_walk h f a w })).related

pub identifiers_suffice : IdentifiersSuffice
identifiers_suffice m lawful h f a w = (shown m lawful h f a w).identifiers

pub instructions_suffice : InstructionsSuffice
instructions_suffice m lawful h f a w = (shown m lawful h f a w).instructions

pub blocks_suffice : BlocksSuffice
blocks_suffice m lawful h f a w = (shown m lawful h f a w).blocks

pub functions_suffice : FunctionsSuffice
functions_suffice m lawful h f a w = (shown m lawful h f a w).functions

pub numbers_suffice : NumbersSuffice
numbers_suffice m lawful h f a w =
    let n₀ = length h.functions in
    (walk_kept m lawful n₀ numbers Ok LoadOk (λ a b r s c. s ≤ numbers_allowed c) (numbers_kept m n₀) depth h f (omega arith) (record { distinct = a.once; each = fine_walk h f a w })).related

pub places_suffice : PlacesSuffice
places_suffice m lawful h f a w =
    let n₀ = length h.functions in
    (walk_kept m lawful n₀ places Ok LoadOk (λ a b r s c. s ≤ places_allowed c) (places_kept m n₀) depth h f (omega arith) (record { distinct = a.once; each = fine_walk h f a w })).related
