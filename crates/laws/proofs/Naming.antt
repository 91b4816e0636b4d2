-- Made names are the first that are not seen, tags the first that nothing bears.
use Rattle.std.proofs.Common.{◌≡◌, ℕ, zero, suc, ◌+◌, ◌<◌, ◌≤◌, Bool, true, false, List, [], ◌∷◌, ◌++◌, length, sym, refl, ◌∙◌, subst, inl, inr, arith, length-append}
use Rattle.std.proofs.lemmas.Bool.{cases_Bool, cases_eq, or_cases, or_parts, or_left, or_right}
use Rattle.rules.specs.Views.{Bytes, InstructionV, FunctionV, Hir}
use Rattle.rules.specs.Names.{same_bytes, borne, numeral, Made, renamed, tag_name, names_of, known, free_tag, next_tag}
use Rattle.rules.specs.Emit.{outline_function, process_jsx_group}
use Rattle.rules.specs.Eliminations.{Meaning}
use Rattle.rules.specs.Outline.{outline_jsx_impl, depth}
use Rattle.rules.specs.Drawn.{FewBorne}
use Rattle.rules.proofs.Naming.{new_free, tag_free, borne-++}
use Rattle.rules.proofs.Steps.{pick_true, pick_false}
use Rattle.laws.specs.Naming.{tried, MadeNamesAreNew, FirstFree, TagsAreFree}
use Rattle.laws.proofs.Ways.{promote_ways}
use Rattle.laws.proofs.Groups.{close_on}
use Rattle.laws.proofs.Onward.{walked_on}
use Rattle.laws.proofs.Staying.{tag_above}

-- Made names.

-- from try i on
record From (seen : List Bytes) (old : Bytes) (c i k : ℕ) (made : Made) : Type 0 where
  pub tries : ℕ
  pub name : made.name ≡ tried old c tries
  pub counter : made.counter ≡ c + tries
  pub later : i ≤ tries
  pub few : tries ≤ i + k
  pub earlier : (j : ℕ) → i ≤ j → j < tries → borne (tried old c j) seen ≡ true

from_try : (k : ℕ) (seen : List Bytes) (old : Bytes) (c i n : ℕ) → n ≡ c + i → From seen old c i k (renamed k seen old (tried old c i) n)
from_try zero seen old c i n e = record { tries = i; name = refl; counter = e; later = omega arith; few = omega arith; earlier = λ j a b. absurd (omega arith) }
from_try (suc k) seen old c i n e =
    let here : Made = record { name = tried old c i; counter = n } in
    let q = from_try k seen old c (suc i) (suc n) (omega arith) in
    let next : From seen old c (suc i) k (renamed k seen old (old ++ numeral n) (suc n)) = subst (λ z. From seen old c (suc i) k (renamed k seen old (old ++ numeral z) (suc n))) (sym e) q in
    (elim (borne (tried old c i) seen) as (λ b. borne (tried old c i) seen ≡ b → From seen old c i (suc k) (elim b as (λ _. Made) [ true ↦ renamed k seen old (old ++ numeral n) (suc n) | false ↦ here ])) [
      | true ↦ λ s. (let l = next.later in let f = next.few in record {
        tries = next.tries;
        name = next.name;
        counter = next.counter;
        later = omega arith;
        few = omega arith;
        earlier = λ j a b. elim (cases_eq j i) [
          | inl z ↦ subst (λ y. borne (tried old c y) seen ≡ true) (sym z) s
          | inr z ↦ next.earlier j (omega arith) b
        ];
      })
      | false ↦ λ _. record { tries = i; name = refl; counter = e; later = omega arith; few = omega arith; earlier = λ j a b. absurd (omega arith) }
    ]) refl

pub made_names_are_new : MadeNamesAreNew
made_names_are_new seen old c =
    let q = from_try (suc (length seen)) seen old c 0 c (omega arith) in
    let f = q.few in
    record { tries = q.tries; name = q.name; counter = q.counter; unseen = new_free seen old c; earlier = λ k l. q.earlier k (omega arith) l; few = omega arith }

-- Tags.

passed_over : (k : ℕ) (names : Bytes → Bool) (n j : ℕ) → n ≤ j → j < free_tag k names n → names (tag_name j) ≡ true
passed_over zero names n j a b = absurd (omega arith)
passed_over (suc k) names n j a b = elim (cases_Bool (names (tag_name n))) [
  | inl e ↦ elim (cases_eq j n) [
    | inl z ↦ subst (λ y. names (tag_name y) ≡ true) (sym z) e
    | inr z ↦ (let p = pick_true (names (tag_name n)) (free_tag k names (suc n)) n e in passed_over k names (suc n) j (omega arith) (omega arith))
  ]
  | inr e ↦ (let p = pick_false (names (tag_name n)) (free_tag k names (suc n)) n e in absurd (omega arith))
]

pub passed_tags : (h : Hir) (j : ℕ) → h.mark < j → j < next_tag h → known h (tag_name j) ≡ true
passed_tags h j a b = passed_over (suc (length h.identifiers + h.used_rows)) (known h) (suc h.mark) j a b

tag_is_free : (h : Hir) → FewBorne h → FirstFree h (next_tag h)
tag_is_free h few =
    let q = or_parts (borne (tag_name (next_tag h)) (names_of h.identifiers)) (h.bears (tag_name (next_tag h))) (tag_free h few) in
    record { above = tag_above h; identifiers = q.0; rows = q.1; earlier = passed_tags h }

-- rows bear no more names than there are rows
abbrev KeepsFew : Hir → Hir → Type 0
KeepsFew a b = FewBorne a → FewBorne b

append_few : (h : Hir) (f : FunctionV) (tag : Bytes) → KeepsFew h (outline_function h f tag)
append_few h f tag few =
    let l = length-append few.names (tag ∷ []) in
    let k = few.few in
    record {
      names = few.names ++ (tag ∷ []);
      few = omega arith;
      all = λ n q. borne-++ n few.names (tag ∷ []) ∙ (elim (or_cases (h.bears n) (same_bytes n tag) q) [
        | inl e ↦ or_left (borne n few.names) (borne n (tag ∷ [])) (few.all n e)
        | inr e ↦ or_right (borne n few.names) (borne n (tag ∷ [])) (or_left (same_bytes n tag) false e)
      ]);
    }

same_few : (h : Hir) → KeepsFew h h
same_few h few = few

pub close_few_borne : (type : ℕ) (gs ms : List InstructionV) (h : Hir) → KeepsFew h (process_jsx_group type gs ms h).hir
close_few_borne = close_on KeepsFew same_few (λ a b c p q few. q (p few))
    (λ h made few. record { names = few.names; few = few.few; all = few.all })
    (λ h x. promote_ways (KeepsFew h) h x (λ _ few. record { names = few.names; few = few.few; all = few.all }) (same_few h))
    (λ h few. record { names = few.names; few = few.few; all = few.all })
    (λ h n few. record { names = few.names; few = few.few; all = few.all })
    append_few

pub walk_few_borne : (d : ℕ) (m : Meaning) (h : Hir) (f : ℕ) → KeepsFew h (outline_jsx_impl d m h f).hir
walk_few_borne = walked_on (λ a b r. KeepsFew a b) same_few (λ a b c r s p q few. q (p few)) close_few_borne (λ h f Fn q few. record { names = few.names; few = few.few; all = few.all })

pub tags_are_free : TagsAreFree
tags_are_free = (tag_is_free, walk_few_borne depth)
