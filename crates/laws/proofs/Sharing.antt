-- A block takes no more than its share, and leaves the rest as acceptable as it was.
use Rattle.std.proofs.Common.{◌≡◌, ℕ, suc, ◌<◌, ◌≤◌, true, eqb, List, [], ◌∷◌, ◌++◌, length, drop, sym, refl, ap, ◌∙◌, subst, inl, inr, arith}
use Rattle.std.proofs.lemmas.Bool.{or_cases, or_right, eqb-true}
use Rattle.rules.specs.Lists.{gathered, backwards, within, Distinct}
use Rattle.rules.specs.Views.{InstructionV, Hir, is_function, rows_at, function_at}
use Rattle.rules.specs.Emit.{Report}
use Rattle.rules.specs.Eliminations.{Meaning, Lawful}
use Rattle.rules.specs.Outline.{Walk, start_block, depth}
use Rattle.rules.specs.Drawn.{inner, inner_of, on_walk, Accepts}
use Rattle.rules.proofs.Blocks.{later_split}
use Rattle.rules.proofs.Membership.{In, in_head, in_left, distinct_left, gathered-++, lists_none}
use Rattle.rules.proofs.Positions.{backwards_twice}
use Rattle.rules.proofs.Steps.{pick_true}
use Rattle.rules.proofs.Sublists.{append_none}
use Rattle.laws.specs.Allowances.{Counts, numbers_allowed, places_allowed}
use Rattle.laws.specs.Taking.{Price, numbers, places}
use Rattle.laws.specs.Sufficing.{WalkFormed}
use Rattle.laws.specs.Sharing.{RowsAccepted, reached_from, reached_by, StillAccepted, AcceptedAtFirst, after_block, BlockShared, RowsStillAccepted, RowShared, LastShared, EveryStepWithinItsShare}
use Rattle.laws.proofs.Staying.{steps_go_onward}
use Rattle.laws.proofs.Walks.{free, Kept, Rest, BlockKept, block_kept, RowsFine, row_kept, last_kept}
use Rattle.laws.proofs.Sufficing.{Ok, LoadOk, Shown, shown_kept, numbers_kept, places_kept, ok_walk}

accepted_at_first : (h : Hir) (f : ℕ) → Accepts h f → WalkFormed depth h f → AcceptedAtFirst h f
accepted_at_first h f a w = record {
  still = record {
    once = a.once;
    used = a.used;
    own = λ j l. ok_walk h f a w f (in_head f (reached_from 31 h f 0)) j;
    inner = λ g q j. ok_walk h f a w g (or_right (eqb g f) (within g (reached_from 31 h f 0)) q) j;
    loads = λ i l. lists_none l;
  };
  counts = refl;
}

module _ (m : Meaning) (lawful : Lawful m) (d : ℕ) (h : Hir) (f k : ℕ) (globals : List InstructionV) (r : Report) (a : StillAccepted d h f k globals) (short : k < length (function_at h f).blocks) where
  abbrev n₀ : ℕ
  n₀ = length h.functions

  big : n₀ ≤ length h.functions
  big = omega arith

  rest : (p : Price) (R : Hir → Hir → Report → ℕ → Counts → Type 0) (kept : Kept m n₀ p Ok LoadOk R) → Rest m lawful n₀ p Ok LoadOk R kept d h f k
  rest p R kept = record {
    low = a.used f (in_head f (reached_from d h f k));
    distinct = a.once;
    each = λ g q. (a.used g (or_right (eqb g f) (within g (reached_from d h f k)) q), a.inner g q);
    own = a.own;
  }

  abbrev v : Walk
  v = after_block m d h f k globals r

  shown : BlockKept m lawful n₀ free Ok LoadOk (λ a b r s c. Shown a b c) (shown_kept m n₀) d h f k globals r big (rest free (λ a b r s c. Shown a b c) (shown_kept m n₀)) a.loads short
  shown = block_kept m lawful n₀ free Ok LoadOk (λ a b r s c. Shown a b c) (shown_kept m n₀) d h f k globals r big (rest free (λ a b r s c. Shown a b c) (shown_kept m n₀)) a.loads short ((shown_kept m n₀).same h)

  listed : BlockKept m lawful n₀ numbers Ok LoadOk (λ a b r s c. s ≤ numbers_allowed c) (numbers_kept m n₀) d h f k globals r big (rest numbers (λ a b r s c. s ≤ numbers_allowed c) (numbers_kept m n₀)) a.loads short
  listed = block_kept m lawful n₀ numbers Ok LoadOk (λ a b r s c. s ≤ numbers_allowed c) (numbers_kept m n₀) d h f k globals r big (rest numbers (λ a b r s c. s ≤ numbers_allowed c) (numbers_kept m n₀)) a.loads short (omega arith)

  placed : BlockKept m lawful n₀ places Ok LoadOk (λ a b r s c. s ≤ places_allowed c) (places_kept m n₀) d h f k globals r big (rest places (λ a b r s c. s ≤ places_allowed c) (places_kept m n₀)) a.loads short
  placed = block_kept m lawful n₀ places Ok LoadOk (λ a b r s c. s ≤ places_allowed c) (places_kept m n₀) d h f k globals r big (rest places (λ a b r s c. s ≤ places_allowed c) (places_kept m n₀)) a.loads short (omega arith)

  still : StillAccepted d v.hir f (suc k) v.globals
  still =
      let n = shown.next in
      let on = (steps_go_onward.blocks 1 d m f k (start_block h globals r)).functions in
      record {
        once = n.distinct;
        used = λ g q. elim (or_cases (eqb g f) (within g (reached_from d v.hir f (suc k))) q) [
          | inl e ↦ (let x = eqb-true g f e in let l = n.low in omega arith)
          | inr i ↦ (let l = (n.each g i).0 in omega arith)
        ];
        own = n.own;
        inner = λ g q. (n.each g q).1;
        loads = shown.next_loads;
      }

  block_shared : BlockShared m d h f k globals r
  block_shared =
      let sw = shown.within in let sr = shown.related in
      let si = sr.identifiers in let su = sr.instructions in let sb = sr.blocks in let sf = sr.functions in
      let lw = listed.within in let lr = listed.related in
      let pw = placed.within in let pr = placed.related in
      record {
        share = record { identifiers = omega arith; instructions = omega arith; numbers = omega arith; places = omega arith; blocks = omega arith; functions = omega arith };
        next = still;
        len = shown.len;
      }

-- The rows of a block.

rows_begin : (d : ℕ) (h : Hir) (f k : ℕ) (globals : List InstructionV) (r : Report) → StillAccepted d h f k globals → k < length (function_at h f).blocks → RowsStillAccepted d (start_block h globals r) (backwards (rows_at h f k))
rows_begin d h f k globals r a short =
    let bs = (function_at h f).blocks in
    let rows = rows_at h f k in
    let mine = gathered (on_walk d h) (inner (backwards rows)) in
    let later = gathered (on_walk d h) (inner_of (drop (suc k) bs)) in
    let e : reached_from d h f k ≡ mine ++ later = ap (gathered (on_walk d h)) (later_split bs k short) ∙ gathered-++ (on_walk d h) (inner (backwards rows)) (inner_of (drop (suc k) bs)) in
    let in_all : (g : ℕ) → In g mine → In g (reached_from d h f k) = λ g q. subst (λ (l : List ℕ). In g l) (sym e) (in_left g mine later q) in
    record {
      once = distinct_left mine later (subst Distinct e a.once.1);
      used = λ g q. a.used g (or_right (eqb g f) (within g (reached_from d h f k)) (in_all g q));
      inner = λ g q. a.inner g (in_all g q);
      own = subst RowsAccepted (sym (append_none (backwards (backwards rows)) ∙ backwards_twice rows)) (a.own k (omega arith));
      elements = λ i l. lists_none l;
      loads = a.loads;
    }

module _ (m : Meaning) (lawful : Lawful m) (d type : ℕ) (w : Walk) (todo : List InstructionV) (a : RowsStillAccepted d w todo) where
  abbrev used₀ : ℕ
  used₀ = length w.hir.functions

  fine : (p : Price) (R : Hir → Hir → Report → ℕ → Counts → Type 0) (kept : Kept m used₀ p Ok LoadOk R) → RowsFine m lawful used₀ p Ok LoadOk R kept d type w todo
  fine p R kept = record { big = omega arith; distinct = a.once; each = λ g q. (a.used g q, a.inner g q); own = a.own; jsx = a.elements; loads = a.loads }

row_shared : (m : Meaning) → Lawful m → (d type : ℕ) (w : Walk) (i : InstructionV) (todo : List InstructionV) → RowsStillAccepted d w (i ∷ todo) → RowShared m d type w i todo
row_shared m lawful d type w i todo a =
    let n₀ = length w.hir.functions in
    let s = row_kept m lawful n₀ free Ok LoadOk (λ a b r s c. Shown a b c) (shown_kept m n₀) d type w i todo (fine m lawful d type w (i ∷ todo) a free (λ a b r s c. Shown a b c) (shown_kept m n₀)) in
    let l = row_kept m lawful n₀ numbers Ok LoadOk (λ a b r s c. s ≤ numbers_allowed c) (numbers_kept m n₀) d type w i todo (fine m lawful d type w (i ∷ todo) a numbers (λ a b r s c. s ≤ numbers_allowed c) (numbers_kept m n₀)) in
    let p = row_kept m lawful n₀ places Ok LoadOk (λ a b r s c. s ≤ places_allowed c) (places_kept m n₀) d type w i todo (fine m lawful d type w (i ∷ todo) a places (λ a b r s c. s ≤ places_allowed c) (places_kept m n₀)) in
    let sw = s.within in let sr = s.related in
    let si = sr.identifiers in let su = sr.instructions in let sb = sr.blocks in let sf = sr.functions in
    let lw = l.within in let lr = l.related in
    let pw = p.within in let pr = p.related in
    let f = s.fine in
    let big = f.big in
    record {
      share = record { identifiers = omega arith; instructions = omega arith; numbers = omega arith; places = omega arith; blocks = omega arith; functions = omega arith };
      next = record { once = f.distinct; used = λ g q. (let x = (f.each g q).0 in omega arith); inner = λ g q. (f.each g q).1; own = f.own; elements = f.jsx; loads = f.loads };
    }

enters : (d : ℕ) (w : Walk) (i : InstructionV) (todo : List InstructionV) → RowsStillAccepted (suc d) w (i ∷ todo) → is_function i ≡ true → StillAccepted d w.hir i.function 0 []
enters d w i todo a h =
    let x = i.function in
    let mine : List ℕ = on_walk (suc d) w.hir x in
    let rest : List ℕ = reached_by (suc d) w.hir todo in
    let e : reached_by (suc d) w.hir (i ∷ todo) ≡ mine ++ rest = ap (gathered (on_walk (suc d) w.hir)) (pick_true (is_function i) (x ∷ inner todo) (inner todo) h) in
    let in_all : (g : ℕ) → In g mine → In g (reached_by (suc d) w.hir (i ∷ todo)) = λ g q. subst (λ (l : List ℕ). In g l) (sym e) (in_left g mine rest q) in
    record {
      once = distinct_left mine rest (subst Distinct e a.once);
      used = λ g q. a.used g (in_all g q);
      own = λ j l. a.inner x (in_all x (in_head x (reached_from d w.hir x 0))) j;
      inner = λ g q. a.inner g (in_all g (or_right (eqb g x) (within g (reached_from d w.hir x 0)) q));
      loads = λ j l. lists_none l;
    }

last_shared : (m : Meaning) → Lawful m → (d type : ℕ) (w : Walk) → RowsStillAccepted d w [] → LastShared d type w
last_shared m lawful d type w a =
    let n₀ = length w.hir.functions in
    let s = last_kept m lawful n₀ free Ok LoadOk (λ a b r s c. Shown a b c) (shown_kept m n₀) d type w (fine m lawful d type w [] a free (λ a b r s c. Shown a b c) (shown_kept m n₀)) in
    let l = last_kept m lawful n₀ numbers Ok LoadOk (λ a b r s c. s ≤ numbers_allowed c) (numbers_kept m n₀) d type w (fine m lawful d type w [] a numbers (λ a b r s c. s ≤ numbers_allowed c) (numbers_kept m n₀)) in
    let p = last_kept m lawful n₀ places Ok LoadOk (λ a b r s c. s ≤ places_allowed c) (places_kept m n₀) d type w (fine m lawful d type w [] a places (λ a b r s c. s ≤ places_allowed c) (places_kept m n₀)) in
    let sw = s.within in let sr = s.related in
    let si = sr.identifiers in let su = sr.instructions in let sb = sr.blocks in let sf = sr.functions in
    let lw = l.within in let lr = l.related in
    let pw = p.within in let pr = p.related in
    record { identifiers = omega arith; instructions = omega arith; numbers = omega arith; places = omega arith; blocks = omega arith; functions = omega arith }

pub every_step_within_its_share : EveryStepWithinItsShare
every_step_within_its_share = record { begins = accepted_at_first; block = block_shared; rows = rows_begin; row = row_shared; enters = enters; last = last_shared }
