-- The walks from several functions, one after another, and those that are left.
use Rattle.std.proofs.Common.{◌≡◌, ℕ, zero, suc, ◌+◌, ◌-◌, ◌<◌, ◌≤◌, Bool, true, false, List, [], ◌∷◌, ◌++◌, length, map, drop, get_or, set, sym, refl, ap, ◌∙◌, subst, append_assoc, append-nil, arith}
use Rattle.std.specs.List.{AllByRecursion}
use Rattle.std.proofs.ByRecursion.{All-append}
use Rattle.std.proofs.lemmas.List.{drop_all}
use Rattle.rules.specs.Lists.{gathered, backwards}
use Rattle.rules.specs.Views.{InstructionV, BlockV, Hir, function_at, is_function, block_rows}
use Rattle.rules.specs.Drawn.{inner, inner_of, on_walk}
use Rattle.rules.proofs.Membership.{In, in_head, gathered-++}
use Rattle.refusals.specs.Walked.{NoDeeper}
use Rattle.refusals.proofs.Blocks.{block_first}
use Rattle.inner_walk.specs.Passing.{Passable, Passed, Walkable, Walks, AllWalkable, AllWalked}
use Rattle.inner_walk.proofs.Joined.{one, able_first, able_rest, joined}

module _ {A : Type 0} (P : A → Type 0) where
  pub all_left : (xs ys : List A) → AllByRecursion P (xs ++ ys) → AllByRecursion P xs
  all_left [] ys a = tt
  all_left (x ∷ xs) ys a = (a.0, all_left xs ys a.1)

  all_right : (xs ys : List A) → AllByRecursion P (xs ++ ys) → AllByRecursion P ys
  all_right [] ys a = a
  all_right (x ∷ xs) ys a = all_right xs ys a.1

-- Of these functions some have been gone through, and these are left.
pub record Going (d : ℕ) (h : Hir) (all left before now : List ℕ) : Type 0 where
  pub gone : List ℕ
  pub whole : gone ++ left ≡ all
  pub walked : AllWalked d h gone before now

module _ (d : ℕ) (h : Hir) where
  went : (all fs left before now after : List ℕ) → Going d h all (fs ++ left) before now → AllWalked d h fs now after → Going d h all left before after
  went all fs left before now after s w = record {
    gone = s.gone ++ fs;
    whole = append_assoc s.gone fs left ∙ s.whole;
    walked = record {
      deep = All-append (NoDeeper d h) s.gone fs s.walked.deep w.deep;
      passed = subst (λ gs. Passed h gs before after) (sym (gathered-++ (on_walk d h) s.gone fs)) (joined h (gathered (on_walk d h) s.gone) (gathered (on_walk d h) fs) before now after s.walked.passed w.passed);
    };
  }

  turned_back : (all fs left before now : List ℕ) → Going d h all (fs ++ left) before now → (AllWalkable d h fs now → ⊥) → AllWalkable d h all before → ⊥
  turned_back all fs left before now s n w =
      let walk = gathered (on_walk d h) in
      let e : walk all ≡ walk s.gone ++ (walk fs ++ walk left) = ap walk (sym s.whole) ∙ gathered-++ (on_walk d h) s.gone (fs ++ left) ∙ ap (λ gs. walk s.gone ++ gs) (gathered-++ (on_walk d h) fs left) in
      n (record {
        deep = all_left (NoDeeper d h) fs left (all_right (NoDeeper d h) s.gone (fs ++ left) (subst (AllByRecursion (NoDeeper d h)) (sym s.whole) w.deep));
        able = able_first h (walk fs) (walk left) now (able_rest h (walk s.gone) (walk fs ++ walk left) before now s.walked.passed (subst (λ gs. Passable h gs before) e w.able));
      })

-- Block k of these comes next, or none is left.
module _ (d : ℕ) (h : Hir) (bs : List BlockV) (k : ℕ) (before now : List ℕ) (s : Going d h (inner_of bs) (inner_of (drop k bs)) before now) where
  pub none_left : length bs ≤ k → AllWalked d h (inner_of bs) before now
  none_left l = subst (λ gs. AllWalked d h gs before now) (sym (append-nil s.gone) ∙ ap (λ cs. s.gone ++ inner_of cs) (sym (drop_all k bs l)) ∙ s.whole) s.walked

  module _ (l : k < length bs) where
    first : Going d h (inner_of bs) (inner (backwards (block_rows bs k)) ++ inner_of (drop (k + 1) bs)) before now
    first = subst (λ gs. Going d h (inner_of bs) gs before now) (block_first bs k l) s

    pub block_walked : (after : List ℕ) → AllWalked d h (inner (backwards (block_rows bs k))) now after → Going d h (inner_of bs) (inner_of (drop (k + 1) bs)) before after
    block_walked after w = went d h (inner_of bs) (inner (backwards (block_rows bs k))) (inner_of (drop (k + 1) bs)) before now after first w

    pub block_refused : (AllWalkable d h (inner (backwards (block_rows bs k))) now → ⊥) → AllWalkable d h (inner_of bs) before → ⊥
    block_refused n = turned_back d h (inner_of bs) (inner (backwards (block_rows bs k))) (inner_of (drop (k + 1) bs)) before now first n

-- The last row of a list, x: its inner function g comes next, or there is none.
module _ (f : ℕ → InstructionV) where
  inner_first : (i : InstructionV) (is : List InstructionV) (b : Bool) → is_function i ≡ b → inner (i ∷ is) ≡ elim b [ true ↦ i.function ∷ inner is | false ↦ inner is ]
  inner_first i is b e = ap (λ (b : Bool). elim b as (λ _. List ℕ) [ true ↦ i.function ∷ inner is | false ↦ inner is ]) e

  last_first : (ys : List ℕ) (x : ℕ) → backwards (map f (ys ++ (x ∷ []))) ≡ f x ∷ backwards (map f ys)
  last_first [] x = refl
  last_first (y ∷ ys) x = ap (λ zs. zs ++ (f y ∷ [])) (last_first ys x)

  left_by : (xs ys : List ℕ) (x : ℕ) (b : Bool) → xs ≡ ys ++ (x ∷ []) → is_function (f x) ≡ b → inner (backwards (map f xs)) ≡ elim b [ true ↦ (f x).function ∷ inner (backwards (map f ys)) | false ↦ inner (backwards (map f ys)) ]
  left_by xs ys x b e t =
      ap (λ zs. inner (backwards (map f zs))) e ∙ ap inner (last_first ys x) ∙ inner_first (f x) (backwards (map f ys)) b t

  module _ (d : ℕ) (h : Hir) (all xs ys before now : List ℕ) (x : ℕ) (e : xs ≡ ys ++ (x ∷ [])) (s : Going d h all (inner (backwards (map f xs))) before now) where
    pub none_named : is_function (f x) ≡ false → Going d h all (inner (backwards (map f ys))) before now
    none_named t = subst (λ gs. Going d h all gs before now) (left_by xs ys x false e t) s

    module _ (g : ℕ) (t : is_function (f x) ≡ true) (named : (f x).function ≡ g) where
      next : Going d h all ((g ∷ []) ++ inner (backwards (map f ys))) before now
      next = subst (λ gs. Going d h all gs before now) (left_by xs ys x true e t ∙ ap (λ k. k ∷ inner (backwards (map f ys))) named) s

      pub named_walked : (after : List ℕ) → Walks d h g now after → Going d h all (inner (backwards (map f ys))) before after
      named_walked after w = went d h all (g ∷ []) (inner (backwards (map f ys))) before now after next (record { deep = (w.deep, tt); passed = subst (λ gs. Passed h gs now after) (sym (append-nil (on_walk d h g))) w.passed })

      pub named_refused : (Walkable d h g now → ⊥) → AllWalkable d h all before → ⊥
      named_refused n = turned_back d h all (g ∷ []) (inner (backwards (map f ys))) before now next (λ w. n (record { deep = w.deep.0; able = subst (λ gs. Passable h gs now) (append-nil (on_walk d h g)) w.able }))

one_less : (n : ℕ) → 0 < n → suc (n - 1) ≡ n
one_less n z = omega arith

-- a function itself comes first, then its inner functions
module _ (h : Hir) (f : ℕ) where
  pub itself : (n : ℕ) → 0 < n → In f (on_walk n h f)
  itself zero z = absurd (omega arith)
  itself (suc d) z = in_head f (gathered (on_walk d h) (inner_of (function_at h f).blocks))

  module _ (n : ℕ) (before : List ℕ) (z : 0 < n) (l : f < length before) (own : (function_at h f).appended ≡ false) (free : get_or before f 0 ≡ 0) where
    pub ended : (now : List ℕ) → AllWalked (n - 1) h (inner_of (function_at h f).blocks) (set before f 1) now → Walks n h f before now
    ended now w = subst (λ m. Walks m h f before now) (one_less n z) (record { deep = w.deep; passed = joined h (f ∷ []) (gathered (on_walk (n - 1) h) (inner_of (function_at h f).blocks)) before (set before f 1) now (one h f before l own free) w.passed })

    pub not_begun : (AllWalkable (n - 1) h (inner_of (function_at h f).blocks) (set before f 1) → ⊥) → Walkable n h f before → ⊥
    not_begun u v = let w = subst (λ m. Walkable m h f before) (sym (one_less n z)) v in
        u (record { deep = w.deep; able = able_rest h (f ∷ []) (gathered (on_walk (n - 1) h) (inner_of (function_at h f).blocks)) before (set before f 1) (one h f before l own free) w.able })
