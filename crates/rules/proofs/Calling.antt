-- Calls, function by function: each may call those that were appended earlier.
use Rattle.std.proofs.Common.{◌≡◌, ℕ, zero, suc, Bool, true, false, ◌&&◌, eqb, List, [], ◌∷◌, ◌++◌, get_or, Some, None, Option, sym, refl, ap, ◌∙◌, subst, inl, inr}
use mathlib.Core.Path.{fun_ext}
use Rattle.std.proofs.lemmas.Bool.{both_ways, cases_Bool, and_parts, and_left, and_right}
use Rattle.rules.specs.Lists.{Lists, here, there, changed}
use Rattle.rules.specs.Views.{FunctionV, Hir, function_rows, function_at, rows_at, Bytes, InstructionV, is_global, no_function}
use Rattle.rules.specs.Names.{same_name, same_bytes}
use Rattle.rules.specs.Runs.{Reading, State, loaded, has_tag, Lookup, given_by, runs, from_start, Attribute}
use Rattle.rules.specs.Drawn.{Borne}
use Rattle.rules.proofs.Steps.{pick_false, pick_true}
use Rattle.rules.proofs.Naming.{same_true}

-- a function more: a tag that names it calls it
abbrev pub with_call : {V : Type 0} → Reading V → (ℕ → V) → Lookup V → FunctionV → Lookup V
with_call r e earlier g own x = elim (has_tag g (loaded own x)) [ true ↦ Some (given_by r e earlier g) | false ↦ earlier own x ]

-- the calls of the appended functions; a call goes down through functions that were appended earlier
abbrev pub with_calls : {V : Type 0} → Reading V → (ℕ → V) → Lookup V → List FunctionV → Lookup V
with_calls r e earlier [] = earlier
with_calls r e earlier (g ∷ gs) = with_calls r e (with_call r e earlier g) gs

abbrev pub no_calls : {V : Type 0} → Lookup V
no_calls own x = None

abbrev pub calls : {V : Type 0} → Reading V → (ℕ → V) → List FunctionV → Lookup V
calls r e fs = with_calls r e no_calls fs

-- running a block with them
abbrev pub run_folded : {V : Type 0} → Reading V → Hir → ℕ → ℕ → (ℕ → V) → State V
run_folded r h f k e = runs r (calls r e h.functions (function_rows (function_at h f))) None (from_start e) (rows_at h f k)

-- what a call gives rests on the name that is loaded into its tag
abbrev Respects : {V : Type 0} → Lookup V → Type 0
Respects l = (own own' : List InstructionV) (x : ℕ) → loaded own x ≡ loaded own' x → l own x ≡ l own' x

module _ {V : Type 0} (r : Reading V) (e : ℕ → V) where
  with_call_respects : (l : Lookup V) (g : FunctionV) → Respects l → Respects (with_call r e l g)
  with_call_respects l g h own own' x q =
      ap (λ (n : Option Bytes). elim (has_tag g n) as (λ _. Option (List (Attribute V) → V)) [ true ↦ Some (given_by r e l g) | false ↦ l own x ]) q
      ∙ (elim (has_tag g (loaded own' x)) as (λ b. ◌≡◌ {A = Option (List (Attribute V) → V)} (elim b [ true ↦ Some (given_by r e l g) | false ↦ l own x ]) (elim b [ true ↦ Some (given_by r e l g) | false ↦ l own' x ])) [ true ↦ refl | false ↦ h own own' x q ])

  pub with_calls_respects : (l : Lookup V) (fs : List FunctionV) → Respects l → Respects (with_calls r e l fs)
  with_calls_respects l [] h = h
  with_calls_respects l (g ∷ fs) h = with_calls_respects (with_call r e l g) fs (with_call_respects l g h)

  pub calls_respects : (fs : List FunctionV) → Respects (calls r e fs)
  calls_respects fs = with_calls_respects no_calls fs (λ own own' x q. refl)

-- a property of every name that is loaded
pub loaded_all : (P : Option Bytes → Type 0) (own : List InstructionV) (x : ℕ) → P None
    → ((i : InstructionV) → Lists own i → is_global i ≡ true → P i.name) → P (loaded own x)
loaded_all P [] x n f = n
loaded_all P (i ∷ is) x n f =
    (elim (is_global i && eqb i.result.identifier x) as (λ t. (is_global i && eqb i.result.identifier x) ≡ t → P (elim t [ true ↦ i.name | false ↦ loaded is x ])) [
      | true ↦ λ h. f i here (and_parts (is_global i) (eqb i.result.identifier x) h).0
      | false ↦ λ _. loaded_all P is x n (λ j l. f j (there l))
    ]) refl

-- a name that is loaded is borne
pub borne_loaded : (own : List InstructionV) (gs : Bytes → Bool) (x : ℕ)
    → ((i : InstructionV) → Lists own i → is_global i ≡ true → Borne i.name gs) → Borne (loaded own x) gs
borne_loaded own gs x f = loaded_all (λ n. Borne n gs) own x tt f

pub plain_no_tag : (g : FunctionV) (n : Option Bytes) → g.appended ≡ false → has_tag g n ≡ false
-- a function that is not appended has no tag to be called by
plain_no_tag g None h = refl
plain_no_tag g (Some n) h = and_left g.appended (same_name g.tag (Some n)) h

-- a name that is a known tag is borne
pub has_tag_known : (g : FunctionV) (n : Option Bytes) (gs : Bytes → Bool) → (g.appended ≡ true → Borne g.tag gs) → has_tag g n ≡ true → Borne n gs
has_tag_known g None gs f h = tt
has_tag_known g (Some n) gs f h = go g.tag refl
  where
    go : (t : Option Bytes) → g.tag ≡ t → gs n ≡ true
    go None e = absurd (both_ways false refl (subst (λ (z : Option Bytes). same_name z (Some n) ≡ true) e (and_parts g.appended (same_name g.tag (Some n)) h).1))
    go (Some t) e =
        let p = and_parts g.appended (same_name g.tag (Some n)) h in
        subst (λ z. gs z ≡ true) (same_true t n (subst (λ (z : Option Bytes). same_name z (Some n) ≡ true) e p.1)) (subst (λ (z : Option Bytes). Borne z gs) e (f p.0))

-- a new tag is no name that is borne already
pub new_tag_apart : (g : FunctionV) (tag : Bytes) (gs : Bytes → Bool) (n : Option Bytes) → g.tag ≡ Some tag → gs tag ≡ false → Borne n gs → has_tag g n ≡ false
new_tag_apart g tag gs None t o b = refl
new_tag_apart g tag gs (Some n) t o b = and_right g.appended (same_name g.tag (Some n)) (elim (cases_Bool (same_bytes tag n)) [
  | inl e ↦ absurd (both_ways (gs tag) o (subst (λ z. gs z ≡ true) (sym (same_true tag n e)) b))
  | inr e ↦ ap (λ (z : Option Bytes). same_name z (Some n)) t ∙ e
])

module _ {V : Type 0} (r : Reading V) (e : ℕ → V) where
  plain_function : (l : Lookup V) (g : FunctionV) → g.appended ≡ false → with_call r e l g ≡ l
  plain_function l g h = fun_ext (λ own. fun_ext (λ x. pick_false (has_tag g (loaded own x)) (Some (given_by r e l g)) (l own x) (plain_no_tag g (loaded own x) h)))

  with_changed : (F : FunctionV → FunctionV) → ((g : FunctionV) → (F g).appended ≡ g.appended) → (l : Lookup V) (f : ℕ) (fs : List FunctionV)
      → (get_or fs f no_function).appended ≡ false → with_calls r e l (changed F f fs) ≡ with_calls r e l fs
  with_changed F k l zero [] h = refl
  with_changed F k l (suc f) [] h = refl
  with_changed F k l zero (g ∷ fs) h = ap (λ (z : Lookup V). with_calls r e z fs) (plain_function l (F g) (k g ∙ h) ∙ sym (plain_function l g h))
  with_changed F k l (suc f) (g ∷ fs) h = with_changed F k (with_call r e l g) f fs h

  -- changing a function that is not appended changes no call
  pub calls_changed : (F : FunctionV → FunctionV) → ((g : FunctionV) → (F g).appended ≡ g.appended) → (f : ℕ) (fs : List FunctionV)
      → (get_or fs f no_function).appended ≡ false → calls r e (changed F f fs) ≡ calls r e fs
  calls_changed F k f fs h = with_changed F k no_calls f fs h

  -- the last function appended
  pub with_snoc : (l : Lookup V) (fs : List FunctionV) (g : FunctionV) → with_calls r e l (fs ++ (g ∷ [])) ≡ with_call r e (with_calls r e l fs) g
  with_snoc l [] g = refl
  with_snoc l (f ∷ fs) g = with_snoc (with_call r e l f) fs g

  pub calls_append : (fs : List FunctionV) (g : FunctionV) (own : List InstructionV) (x : ℕ) → has_tag g (loaded own x) ≡ false
      → calls r e (fs ++ (g ∷ [])) own x ≡ calls r e fs own x
  calls_append fs g own x h = ap (λ (l : Lookup V). l own x) (with_snoc no_calls fs g) ∙ pick_false (has_tag g (loaded own x)) (Some (given_by r e (calls r e fs) g)) (calls r e fs own x) h

  pub calls_last : (fs : List FunctionV) (g : FunctionV) (own : List InstructionV) (x : ℕ) → has_tag g (loaded own x) ≡ true
      → calls r e (fs ++ (g ∷ [])) own x ≡ Some (given_by r e (calls r e fs) g)
  calls_last fs g own x h = ap (λ (l : Lookup V). l own x) (with_snoc no_calls fs g) ∙ pick_true (has_tag g (loaded own x)) (Some (given_by r e (calls r e fs) g)) (calls r e fs own x) h
