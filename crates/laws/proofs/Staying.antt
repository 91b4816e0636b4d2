-- Every single change of the store goes onward, and so the walk does.
use Rattle.std.proofs.Common.{◌≡◌, ℕ, zero, suc, ◌+◌, ◌<◌, ◌≤◌, Bool, List, [], ◌∷◌, ◌++◌, length, get_or, sym, refl, ap, ◌∙◌, subst, inl, inr, append_assoc, arith, length-append}
use Rattle.std.proofs.lemmas.List.{get_or_append_left, get_or_push, append-nil}
use Rattle.std.proofs.lemmas.Bool.{cases_Bool, cases_eq, cases_lt, or_left}
use Rattle.rules.specs.Lists.{changed}
use Rattle.rules.specs.Views.{Bytes, InstructionV, FunctionV, NameV, promoted, IdentifierV, Hir, with_identifiers, with_functions, write, no_function, function_at}
use Rattle.rules.specs.Names.{same_bytes, temporary, tag_name, known, next_tag, free_tag}
use Rattle.rules.specs.Props.{no_identifier, promote, fresh}
use Rattle.rules.specs.Emit.{take_tag, outline_function, Report, process_jsx_group}
use Rattle.rules.specs.Eliminations.{Meaning}
use Rattle.rules.specs.Outline.{outline_jsx_impl, depth}
use Rattle.rules.proofs.Positions.{length_changed, at_changed, at_other}
use Rattle.rules.proofs.Steps.{pick_true, pick_false}
use Rattle.laws.specs.Staying.{SameFunction, identifier_at, SameIdentifier, Onward, EveryOutlineGoesOnward, EveryStepGoesOnward}
use Rattle.laws.proofs.Onward.{function_refl, function_then, back_on, blocks_on, walked_on}
use Rattle.laws.proofs.Ways.{promoting, promote_ways}
use Rattle.laws.proofs.Groups.{close_on}

identifier_refl : (i : IdentifierV) → SameIdentifier i i
identifier_refl i = record { declaration = refl; name = inl refl }

identifier_then : (i j k : IdentifierV) → SameIdentifier i j → SameIdentifier j k → SameIdentifier i k
identifier_then i j k p q = record {
  declaration = q.declaration ∙ p.declaration;
  name = elim q.name [
    | inl e ↦ elim p.name [
      | inl d ↦ inl (e ∙ d)
      | inr d ↦ inr (d.0, e ∙ d.1)
    ]
    | inr e ↦ elim p.name [
      | inl d ↦ inr (sym d ∙ e.0, e.1 ∙ ap (λ (n : ℕ). promoted (temporary n)) p.declaration)
      | inr d ↦ (let z : ◌≡◌ {A = ℕ} 0 1 = cc in absurd (omega arith))
    ]
  ];
}

pub onward_refl : (h : Hir) → Onward h h
onward_refl h = record {
  identifiers = omega arith;
  identifier = λ x l. identifier_refl (identifier_at h x);
  fresh = λ x a b. absurd (omega arith);
  functions = omega arith;
  function = λ f l. function_refl (function_at h f);
  text = ([], sym (append-nil h.text));
  used_rows = omega arith;
  bears = λ n q. q;
  counter = omega arith;
  mark = omega arith;
}

pub onward_then : (a b c : Hir) → Onward a b → Onward b c → Onward a c
onward_then a b c p q =
    let i = p.identifiers in let j = q.identifiers in
    let f = p.functions in let g = q.functions in
    let k = p.counter in let l = q.counter in
    let m = p.mark in let n = q.mark in
    let o = p.used_rows in let r = q.used_rows in
    record {
      identifiers = omega arith;
      identifier = λ x s. identifier_then (identifier_at a x) (identifier_at b x) (identifier_at c x) (p.identifier x s) (q.identifier x (omega arith));
      fresh = λ x s t. elim (cases_lt x (length b.identifiers)) [
        | inl u ↦ (q.identifier x u).declaration ∙ p.fresh x s u
        | inr u ↦ q.fresh x u t
      ];
      functions = omega arith;
      function = λ x s. function_then (function_at a x) (function_at b x) (function_at c x) (p.function x s) (q.function x (omega arith));
      text = (p.text.0 ++ q.text.0, q.text.1 ∙ ap (λ (z : Bytes). z ++ q.text.0) p.text.1 ∙ append_assoc a.text p.text.0 q.text.0);
      used_rows = omega arith;
      bears = λ n b. q.bears n (p.bears n b);
      counter = omega arith;
      mark = omega arith;
    }

-- a change of the identifiers alone
with_onward : (h : Hir) (is : List IdentifierV)
    → length h.identifiers ≤ length is
    → ((x : ℕ) → x < length h.identifiers → SameIdentifier (identifier_at h x) (get_or is x no_identifier))
    → ((x : ℕ) → length h.identifiers ≤ x → x < length is → (get_or is x no_identifier).declaration ≡ x)
    → Onward h (with_identifiers h is)
with_onward h is l s n = record {
  identifiers = l;
  identifier = s;
  fresh = n;
  functions = omega arith;
  function = λ f _. function_refl (function_at h f);
  text = ([], sym (append-nil h.text));
  used_rows = omega arith;
  bears = λ n q. q;
  counter = omega arith;
  mark = omega arith;
}

writes_onward : (h : Hir) (made : Bytes) → Onward h (write h made)
writes_onward h made = record {
  identifiers = omega arith;
  identifier = λ x l. identifier_refl (identifier_at h x);
  fresh = λ x a b. absurd (omega arith);
  functions = omega arith;
  function = λ f l. function_refl (function_at h f);
  text = (made, refl);
  used_rows = omega arith;
  bears = λ n q. q;
  counter = omega arith;
  mark = omega arith;
}

promotes_onward : (h : Hir) (x : ℕ) → Onward h (promote h x)
promotes_onward h x =
    let i : IdentifierV = identifier_at h x in
    let is : List IdentifierV = changed promoting x h.identifiers in
    let l = length_changed promoting x h.identifiers in
    promote_ways (Onward h) h x
    (λ e. onward_then h (with_identifiers h is) (write (with_identifiers h is) (temporary i.declaration)) (with_onward h is (omega arith)
    (λ y s. elim (cases_eq y x) [
      | inl q ↦ subst (λ z. SameIdentifier (identifier_at h z) (get_or is z no_identifier)) (sym q)
          (subst (λ (z : IdentifierV). SameIdentifier i z) (sym (at_changed promoting x h.identifiers no_identifier (omega arith))) (record { declaration = refl; name = inr (e, refl) }))
      | inr q ↦ subst (λ (z : IdentifierV). SameIdentifier (identifier_at h y) z) (sym (at_other promoting x y h.identifiers no_identifier q)) (identifier_refl (identifier_at h y))
    ])
    (λ y s t. absurd (omega arith))) (writes_onward (with_identifiers h is) (temporary i.declaration)))
    (onward_refl h)

pub freshens_onward : (h : Hir) (n : NameV) → Onward h (fresh h n)
freshens_onward h n =
    let new : IdentifierV = record { declaration = length h.identifiers; name = n } in
    let l = length-append h.identifiers (new ∷ []) in
    with_onward h (h.identifiers ++ (new ∷ [])) (omega arith)
    (λ x s. subst (λ (z : IdentifierV). SameIdentifier (identifier_at h x) z) (sym (get_or_append_left h.identifiers (new ∷ []) no_identifier x s)) (identifier_refl (identifier_at h x)))
    (λ x s t. let e : length h.identifiers ≡ x = omega arith in ap (λ (z : IdentifierV). z.declaration) (get_or_push h.identifiers new no_identifier x e) ∙ e)

-- a tag is above the mark
free_above : (k : ℕ) (names : Bytes → Bool) (n : ℕ) → n ≤ free_tag k names n
free_above zero names n = omega arith
free_above (suc k) names n = elim (cases_Bool (names (tag_name n))) [
  | inl e ↦ (let q = free_above k names (suc n) in let p = pick_true (names (tag_name n)) (free_tag k names (suc n)) n e in omega arith)
  | inr e ↦ (let p = pick_false (names (tag_name n)) (free_tag k names (suc n)) n e in omega arith)
]

pub tag_above : (h : Hir) → h.mark < next_tag h
tag_above h = free_above (suc (length h.identifiers + h.used_rows)) (known h) (suc h.mark)

tags_onward : (h : Hir) → Onward h (take_tag h)
tags_onward h =
    let q = tag_above h in
    record {
      identifiers = omega arith;
      identifier = λ x l. identifier_refl (identifier_at h x);
      fresh = λ x a b. absurd (omega arith);
      functions = omega arith;
      function = λ f l. function_refl (function_at h f);
      text = (tag_name (next_tag h), refl);
      used_rows = omega arith;
      bears = λ n q. q;
      counter = omega arith;
      mark = omega arith;
    }

appends_onward : (h : Hir) (f : FunctionV) (tag : Bytes) → Onward h (outline_function h f tag)
appends_onward h f tag =
    let l = length-append h.functions (f ∷ []) in
    record {
      identifiers = omega arith;
      identifier = λ x _. identifier_refl (identifier_at h x);
      fresh = λ x a b. absurd (omega arith);
      functions = omega arith;
      function = λ g s. subst (λ (z : FunctionV). SameFunction (function_at h g) z) (sym (get_or_append_left h.functions (f ∷ []) no_function g s)) (function_refl (function_at h g));
      text = ([], sym (append-nil h.text));
      used_rows = omega arith;
      bears = λ n q. or_left (h.bears n) (same_bytes n tag) q;
      counter = omega arith;
      mark = omega arith;
    }

pub relists_onward : (h : Hir) (f : ℕ) (Fn : FunctionV → FunctionV) → ((g : FunctionV) → SameFunction g (Fn g)) → Onward h (with_functions h (changed Fn f h.functions))
relists_onward h f Fn q =
    let l = length_changed Fn f h.functions in
    record {
      identifiers = omega arith;
      identifier = λ x _. identifier_refl (identifier_at h x);
      fresh = λ x a b. absurd (omega arith);
      functions = omega arith;
      function = λ g s. elim (cases_eq g f) [
        | inl e ↦ subst (λ z. SameFunction (function_at h z) (get_or (changed Fn f h.functions) z no_function)) (sym e)
            (subst (λ (z : FunctionV). SameFunction (function_at h f) z) (sym (at_changed Fn f h.functions no_function (omega arith))) (q (function_at h f)))
        | inr e ↦ subst (λ (z : FunctionV). SameFunction (function_at h g) z) (sym (at_other Fn f g h.functions no_function e)) (function_refl (function_at h g))
      ];
      text = ([], sym (append-nil h.text));
      used_rows = omega arith;
      bears = λ n q. q;
      counter = omega arith;
      mark = omega arith;
    }

pub close_onward : (type : ℕ) (gs ms : List InstructionV) (h : Hir) → Onward h (process_jsx_group type gs ms h).hir
close_onward = close_on Onward onward_refl onward_then writes_onward promotes_onward tags_onward freshens_onward appends_onward

pub walk_onward : (d : ℕ) (m : Meaning) (h : Hir) (f : ℕ) → Onward h (outline_jsx_impl d m h f).hir
walk_onward = walked_on (λ a b r. Onward a b) onward_refl (λ a b c r s. onward_then a b c) close_onward relists_onward

-- a group appends functions at most
abbrev Longer : Hir → Hir → Type 0
Longer a b = (new : List FunctionV) × (b.functions ≡ a.functions ++ new)

close_longer : (type : ℕ) (gs ms : List InstructionV) (h : Hir) → Longer h (process_jsx_group type gs ms h).hir
close_longer = close_on Longer none (λ a b c p q. (p.0 ++ q.0, q.1 ∙ ap (λ (z : List FunctionV). z ++ q.0) p.1 ∙ append_assoc a.functions p.0 q.0))
    (λ h made. none h) (λ h x. promote_ways (Longer h) h x (λ _. none h) (none h)) none (λ h n. none h) (λ h f tag. (f ∷ [], refl))
  where
    none : (h : Hir) → Longer h h
    none h = ([], sym (append-nil h.functions))

pub close_keeps : (type : ℕ) (gs ms : List InstructionV) (h : Hir) (g : ℕ) → g < length h.functions → function_at (process_jsx_group type gs ms h).hir g ≡ function_at h g
close_keeps type gs ms h g l =
    let q = close_longer type gs ms h in
    ap (λ (z : List FunctionV). get_or z g no_function) q.1 ∙ get_or_append_left h.functions q.0 no_function g l

pub outlines_go_onward : EveryOutlineGoesOnward
outlines_go_onward = walk_onward depth

abbrev StepOnward : Hir → Hir → Report → Type 0
StepOnward a b r = Onward a b

pub steps_go_onward : EveryStepGoesOnward
steps_go_onward = record {
  group = close_onward;
  rows = λ d m type w is. back_on StepOnward onward_refl (λ a b c r s. onward_then a b c) close_onward relists_onward (outline_jsx_impl d m) (walk_onward d m) w.hir type w is (onward_refl w.hir);
  blocks = λ n d m f k w. blocks_on StepOnward onward_refl (λ a b c r s. onward_then a b c) close_onward relists_onward (outline_jsx_impl d m) (walk_onward d m) w.hir n m f k w (onward_refl w.hir);
}
