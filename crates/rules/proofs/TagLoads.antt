-- Copies of tag loads, and the places of members.
use Rattle.std.proofs.Common.{◌≡◌, ℕ, eqb, ◌⊎◌, List, [], ◌∷◌, Some, None, Option, sym, refl, ap, ◌∙◌, subst, ap₂, inl, inr}
use Rattle.std.proofs.lemmas.Bool.{or_left, or_right, eqb-true, eq-eqb, cases_Bool}
use Rattle.rules.specs.Lists.{within, gathered, Lists, here, there}
use Rattle.rules.specs.Views.{PlaceV, InstructionV, results}
use Rattle.rules.specs.Emit.{find_global, emit_load_globals}
use Rattle.rules.proofs.Membership.{In, lists_none, lists_head, lists_left, lists_right, lists_split}
use Rattle.rules.proofs.Steps.{pick_true, pick_false}

-- copies of tag loads
pub data Copies (gs : List InstructionV) : List PlaceV → List InstructionV → Type 0 where
  no_copy : Copies gs [] []
  copy : {p : PlaceV} {g : InstructionV} {ps : List PlaceV} {ls : List InstructionV} → Lists gs g → g.result.identifier ≡ p.identifier
      → Copies gs ps ls → Copies gs (p ∷ ps) (g ∷ ls)

-- a load is found or not
find_cases : (gs : List InstructionV) (x : ℕ)
    → (find_global gs x ≡ None) ⊎ ((g : InstructionV) × (find_global gs x ≡ Some g) × Lists gs g × (g.result.identifier ≡ x))
find_cases [] x = inl refl
find_cases (g ∷ gs) x = elim (cases_Bool (eqb g.result.identifier x)) [
  | inl e ↦ inr (g, pick_true (eqb g.result.identifier x) (Some g) (find_global gs x) e, here, eqb-true g.result.identifier x e)
  | inr e ↦ (let p = pick_false (eqb g.result.identifier x) (Some g) (find_global gs x) e in elim (find_cases gs x) [ inl q ↦ inl (p ∙ q) | inr q ↦ inr (q.0, p ∙ q.1, there q.2, q.3) ])
]

-- a tag place is missing, or all are copied
pub load_cases : (gs : List InstructionV) (ps : List PlaceV)
    → (emit_load_globals gs ps ≡ None) ⊎ ((ls : List InstructionV) × (emit_load_globals gs ps ≡ Some ls) × Copies gs ps ls)
load_cases gs [] = inr ([], refl, no_copy)
load_cases gs (p ∷ ps) =
    let with_rest : Option InstructionV → Option (List InstructionV) → Option (List InstructionV) = λ o t. elim o [ None ↦ None | Some g ↦ elim t [ None ↦ None | Some ls ↦ Some (g ∷ ls) ] ] in
    elim (find_cases gs p.identifier) [
      | inl e ↦ inl (ap (λ (o : Option InstructionV). with_rest o (emit_load_globals gs ps)) e)
      | inr q ↦ elim (load_cases gs ps) [
        | inl e ↦ inl (ap₂ with_rest q.1 e)
        | inr t ↦ inr (q.0 ∷ t.0, ap₂ with_rest q.1 t.1, copy q.2 q.3 t.2)
      ]
    ]

-- a copy is of a load among the globals, for one of the tag places, and each tag place has one
pub copies_from : {gs : List InstructionV} {ps : List PlaceV} {ls : List InstructionV} → Copies gs ps ls → (l : InstructionV) → Lists ls l
    → Lists gs l × ((p : PlaceV) × Lists ps p × (l.result.identifier ≡ p.identifier))
copies_from no_copy l m = lists_none m
copies_from {gs} (copy {p} {g} a e c) l m = elim (lists_head m) [
  | inl s ↦ (subst (λ z. Lists gs z) (sym s) a, (p, here, ap (λ (z : InstructionV). z.result.identifier) s ∙ e))
  | inr n ↦ (let q = copies_from c l n in (q.0, (q.1.0, there q.1.1, q.1.2)))
]

pub copies_all : {gs : List InstructionV} {ps : List PlaceV} {ls : List InstructionV} → Copies gs ps ls → (p : PlaceV) → Lists ps p
    → In p.identifier (results ls)
copies_all no_copy p m = lists_none m
copies_all (copy {p = q} {g} {ps} {ls} a e c) p m = elim (lists_head m) [
  | inl s ↦ or_left (eqb p.identifier g.result.identifier) (within p.identifier (results ls)) (eq-eqb p.identifier g.result.identifier (ap (λ (z : PlaceV). z.identifier) s ∙ sym e))
  | inr n ↦ or_right (eqb p.identifier g.result.identifier) (within p.identifier (results ls)) (copies_all c p n)
]

-- places of members
abbrev pub places_of : List InstructionV → List PlaceV
places_of ms = gathered (λ (m : InstructionV). m.places) ms

pub member_places : (ms : List InstructionV) (m : InstructionV) (p : PlaceV) → Lists ms m → Lists m.places p → Lists (places_of ms) p
member_places [] m p l q = lists_none l
member_places (n ∷ ms) m p l q = elim (lists_head l) [
  | inl e ↦ lists_left (places_of ms) (subst (λ (z : InstructionV). Lists z.places p) e q)
  | inr k ↦ lists_right n.places (member_places ms m p k q)
]

pub places_member : (ms : List InstructionV) (p : PlaceV) → Lists (places_of ms) p → (m : InstructionV) × Lists ms m × Lists m.places p
places_member [] p l = lists_none l
places_member (n ∷ ms) p l = elim (lists_split n.places l) [
  | inl q ↦ (n, here, q)
  | inr q ↦ (let u = places_member ms p q in (u.0, there u.1, u.2))
]
