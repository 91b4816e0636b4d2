-- A relation between stores that every step of the walk keeps holds of the whole walk.
use Rattle.std.proofs.Common.{◌≡◌, ℕ, zero, suc, ◌+◌, List, [], ◌∷◌, length, refl, ap, ◌∙◌, subst, arith}
use Rattle.rules.specs.Lists.{changed, backwards}
use Rattle.rules.specs.Views.{InstructionV, BlockV, FunctionV, Hir, with_functions, with_rows, with_blocks, function_at, rows_at, with_list}
use Rattle.rules.specs.Emit.{Outcome, Report, nothing, add, Rewrite, process_jsx_group}
use Rattle.rules.specs.Eliminations.{listing, Meaning, eliminated}
use Rattle.rules.specs.Outline.{Walk, process_and_outline_jsx, passed, walk_back, rewritten, start_block, finished, walk_block, walk_blocks, outline_jsx_impl}
use Rattle.laws.proofs.Ways.{passed_ways}
use Rattle.laws.specs.Staying.{SameButLists, SameFunction}

-- Reports.

pub add_none : (r : Report) → add r nothing ≡ r
add_none r =
    let f : r.functions + 0 ≡ r.functions = omega arith in
    let a : r.abandoned + 0 ≡ r.abandoned = omega arith in
    let p : r.properties + 0 ≡ r.properties = omega arith in
    ap (λ (n : ℕ). record { functions = n; abandoned = r.abandoned + 0; properties = r.properties + 0 }) f
    ∙ ap (λ (n : ℕ). record { functions = r.functions; abandoned = n; properties = r.properties + 0 }) a
    ∙ ap (λ (n : ℕ). record { functions = r.functions; abandoned = r.abandoned; properties = n }) p

-- Blocks with other lists.

pub same_refl : (bs : List BlockV) → SameButLists bs bs
same_refl [] = tt
same_refl (b ∷ bs) = (refl, same_refl bs)

pub same_changed : (rows : List InstructionV) (k : ℕ) (bs : List BlockV) → SameButLists bs (changed (λ b. with_rows b rows) k bs)
same_changed rows zero [] = tt
same_changed rows (suc k) [] = tt
same_changed rows zero (b ∷ bs) = (refl, same_refl bs)
same_changed rows (suc k) (b ∷ bs) = (refl, same_changed rows k bs)

pub same_listing : (bs : List BlockV) (ls : List (List InstructionV)) → SameButLists bs (listing bs ls)
same_listing [] ls = tt
same_listing (b ∷ bs) [] = (refl, same_refl bs)
same_listing (b ∷ bs) (l ∷ ls) = (refl, same_listing bs ls)

pub same_then : (as' bs cs : List BlockV) → SameButLists as' bs → SameButLists bs cs → SameButLists as' cs
same_then [] [] [] p q = tt
same_then [] [] (c ∷ cs) p q = q
same_then [] (b ∷ bs) cs p q = absurd p
same_then (a ∷ as') [] cs p q = absurd p
same_then (a ∷ as') (b ∷ bs) [] p q = q
same_then (a ∷ as') (b ∷ bs) (c ∷ cs) p q = (q.0 ∙ ap (λ (z : BlockV). with_rows z c.rows) p.0, same_then as' bs cs p.1 q.1)

pub function_refl : (f : FunctionV) → SameFunction f f
function_refl f = (refl, same_refl f.blocks)

pub function_then : (f g h : FunctionV) → SameFunction f g → SameFunction g h → SameFunction f h
function_then f g h p q = (q.0 ∙ ap (λ (z : FunctionV). with_blocks z h.blocks) p.0, same_then f.blocks g.blocks h.blocks p.1 q.1)

-- The principle.

module _ (R : Hir → Hir → Report → Type 0)
    (same : (h : Hir) → R h h nothing)
    (then : (a b c : Hir) (r s : Report) → R a b r → R b c s → R a c (add r s))
    (closes : (type : ℕ) (gs ms : List InstructionV) (h : Hir) → R h (process_jsx_group type gs ms h).hir (process_jsx_group type gs ms h).report)
    (relists : (h : Hir) (f : ℕ) (Fn : FunctionV → FunctionV) → ((g : FunctionV) → SameFunction g (Fn g)) → R h (with_functions h (changed Fn f h.functions)) nothing) where
  then_none : (a b c : Hir) (r : Report) → R a b r → R b c nothing → R a c r
  then_none a b c r p q = subst (R a c) (add_none r) (then a b c r nothing p q)

  module _ (inner : Hir → ℕ → Outcome) (inside : (h : Hir) (x : ℕ) → R h (inner h x).hir (inner h x).report) (h₀ : Hir) where
    abbrev At : Walk → Type 0
    At w = R h₀ w.hir w.report

    closed_on : (type : ℕ) (w : Walk) → At w → At (process_and_outline_jsx type w)
    closed_on type w p = then h₀ w.hir (process_and_outline_jsx type w).hir w.report (process_jsx_group type w.globals w.members w.hir).report p (closes type w.globals w.members w.hir)

    passed_on : (type : ℕ) (w : Walk) (i : InstructionV) → At w → At (passed inner type w i)
    passed_on type w i p = passed_ways At inner type w i (λ _. p)
        (λ _ _. then h₀ w.hir (inner w.hir i.function).hir w.report (inner w.hir i.function).report p (inside w.hir i.function))
        (λ _ _ _ _. p) (λ _ _ _ _. closed_on type w p) (λ _ _ _. p)

    pub back_on : (type : ℕ) (w : Walk) (is : List InstructionV) → At w → At (walk_back inner type w is)
    back_on type w [] p = closed_on type w p
    back_on type w (i ∷ is) p = back_on type (passed inner type w i) is (passed_on type w i p)

    finished_on : (m : Meaning) (f k : ℕ) (w : Walk) → At w → R h₀ (finished m f k w) w.report
    finished_on m f k w p = elim w.rewrites as (λ (l : List Rewrite). R h₀ (elim l [ [] ↦ w.hir | r ∷ rs ↦ eliminated m (with_list w.hir f k (rewritten w.rewrites (rows_at w.hir f k))) f ]) w.report) [
      | [] ↦ p
      | r ∷ rs ↦
          let rows = rewritten w.rewrites (rows_at w.hir f k) in
          let h₁ = with_list w.hir f k rows in
          then_none h₀ h₁ (eliminated m h₁ f) w.report
          (then_none h₀ w.hir h₁ w.report p (relists w.hir f (λ (g : FunctionV). with_blocks g (changed (λ b. with_rows b rows) k g.blocks)) (λ g. (refl, same_changed rows k g.blocks))))
          (relists h₁ f (λ (g : FunctionV). with_blocks g (listing g.blocks (m h₁ f))) (λ g. (refl, same_listing g.blocks (m h₁ f))))
    ]

    pub block_on : (m : Meaning) (f k : ℕ) (w : Walk) → At w → At (walk_block m inner f k w)
    block_on m f k w p =
        let v : Walk = walk_back inner (function_at w.hir f).type (start_block w.hir w.globals w.report) (backwards (rows_at w.hir f k)) in
        finished_on m f k v (back_on (function_at w.hir f).type (start_block w.hir w.globals w.report) (backwards (rows_at w.hir f k)) p)

    pub blocks_on : (n : ℕ) (m : Meaning) (f k : ℕ) (w : Walk) → At w → At (walk_blocks n m inner f k w)
    blocks_on zero m f k w p = p
    blocks_on (suc n) m f k w p = blocks_on n m f (suc k) (walk_block m inner f k w) (block_on m f k w p)

  pub walked_on : (d : ℕ) (m : Meaning) (h : Hir) (f : ℕ) → R h (outline_jsx_impl d m h f).hir (outline_jsx_impl d m h f).report
  walked_on zero m h f = same h
  walked_on (suc d) m h f = blocks_on (outline_jsx_impl d m) (λ h' x. walked_on d m h' x) h (length (function_at h f).blocks) m f 0 (start_block h [] nothing) (same h)
