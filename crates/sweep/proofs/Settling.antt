-- Rounds until nothing new is marked: then the marks keep what sweep keeps.
use Rattle.std.proofs.Common.{◌≡◌, ℕ, zero, suc, ◌<◌, ◌≤◌, Bool, true, false, not, eqb, ◌⊎◌, List, [], ◌∷◌, ◌++◌, length, get_or, set, sym, refl, ap, ◌∙◌, subst, inl, inr, arith, get_or-set_other, get_or-set_same}
use Rattle.std.proofs.lemmas.List.{set_past}
use Rattle.std.proofs.lemmas.Bool.{cases_Bool, cases_eq, cases_lt, or_cases, or_left, or_right, both_ways, eqb-true, eq-eqb}
use Rattle.rules.specs.Lists.{any, gathered, select, within, Lists, here, there}
use Rattle.rules.specs.Views.{InstructionV, BlockV, acting, identifiers_of, reads, rows_of, writes}
use Rattle.rules.specs.Eliminations.{kept, needed, terminal_reads}
use Rattle.rules.proofs.Membership.{In, in_cases, in_left, in_right, in_head, lists_none, lists_head}
use Rattle.rules.proofs.Sweeping.{round, round_cases, round_row, stable}
use Rattle.dead_code_elimination.specs.Elimination.{Zero}
use Rattle.sweep.specs.Marks.{is_marked, unmarked, with_mark, with_marks, kept_by, passed, all_passed, round_passed, terminals_marked, MarksNeeded}
use Rattle.rules.proofs.Steps.{pick_true, pick_false}
use Rattle.sweep.proofs.Marking.{one_less, is_marked_not, with_mark_long, with_marks_long}

abbrev Marked : List ℕ → ℕ → Type 0
Marked marks x = is_marked marks x ≡ true

-- one mark more: by whether it was there
mark_cases : (marks : List ℕ) (x : ℕ) → ((get_or marks x 0 ≡ 0) × (with_mark marks x ≡ set marks x 1)) ⊎ (Marked marks x × (with_mark marks x ≡ marks))
mark_cases marks x = elim (cases_Bool (eqb (get_or marks x 0) 0)) [
  | inl e ↦ inl (eqb-true (get_or marks x 0) 0 e, pick_true (eqb (get_or marks x 0) 0) (set marks x 1) marks e)
  | inr e ↦ inr (ap not e, pick_false (eqb (get_or marks x 0) 0) (set marks x 1) marks e)
]

mark_keeps : (marks : List ℕ) (x y : ℕ) → Marked marks y → Marked (with_mark marks x) y
mark_keeps marks x y h = elim (mark_cases marks x) [
  | inl u ↦ elim (cases_eq y x) [
    | inl e ↦ absurd (both_ways (is_marked marks y) (is_marked_not marks y (ap (λ v. get_or marks v 0) e ∙ u.0)) h)
    | inr n ↦ subst (λ (m : List ℕ). Marked m y) (sym u.1) (ap (λ v. not (eqb v 0)) (get_or-set_other marks x y 1 0 n) ∙ h)
  ]
  | inr u ↦ subst (λ (m : List ℕ). Marked m y) (sym u.1) h
]

mark_only : (marks : List ℕ) (x y : ℕ) → Marked (with_mark marks x) y → (y ≡ x) ⊎ Marked marks y
mark_only marks x y h = elim (mark_cases marks x) [
  | inl u ↦ elim (cases_eq y x) [
    | inl e ↦ inl e
    | inr n ↦ inr (sym (ap (λ v. not (eqb v 0)) (get_or-set_other marks x y 1 0 n)) ∙ subst (λ (m : List ℕ). Marked m y) u.1 h)
  ]
  | inr u ↦ inr (subst (λ (m : List ℕ). Marked m y) u.1 h)
]

mark_sets : (marks : List ℕ) (x : ℕ) → x < length marks → Marked (with_mark marks x) x
mark_sets marks x h = elim (mark_cases marks x) [
  | inl u ↦ subst (λ (m : List ℕ). Marked m x) (sym u.1) (ap (λ v. not (eqb v 0)) (get_or-set_same marks x 1 0 h))
  | inr u ↦ subst (λ (m : List ℕ). Marked m x) (sym u.1) u.0
]

-- several more
marks_keep : (marks xs : List ℕ) (y : ℕ) → Marked marks y → Marked (with_marks marks xs) y
marks_keep marks [] y h = h
marks_keep marks (x ∷ xs) y h = marks_keep (with_mark marks x) xs y (mark_keeps marks x y h)

marks_only : (marks xs : List ℕ) (y : ℕ) → Marked (with_marks marks xs) y → In y xs ⊎ Marked marks y
marks_only marks [] y h = inr h
marks_only marks (x ∷ xs) y h = elim (marks_only (with_mark marks x) xs y h) [
  | inl i ↦ inl (or_right (eqb y x) (within y xs) i)
  | inr m ↦ elim (mark_only marks x y m) [ inl e ↦ inl (or_left (eqb y x) (within y xs) (eq-eqb y x e)) | inr k ↦ inr k ]
]

abbrev pub InRange : List ℕ → List ℕ → Type 0
InRange marks xs = (x : ℕ) → In x xs → x < length marks

marks_set : (marks xs : List ℕ) (y : ℕ) → InRange marks xs → In y xs → Marked (with_marks marks xs) y
marks_set marks [] y a i = absurd (both_ways false refl i)
marks_set marks (x ∷ xs) y a i = elim (or_cases (eqb y x) (within y xs) i) [
  | inl e ↦ marks_keep (with_mark marks x) xs y (subst (Marked (with_mark marks x)) (sym (eqb-true y x e)) (mark_sets marks x (a x (in_head x xs))))
  | inr k ↦ marks_set (with_mark marks x) xs y (λ z q. let e = with_mark_long marks x in let h = a z (or_right (eqb z x) (within z xs) q) in omega arith) k
]

-- how many are left never grows; if it stays, nothing was marked
mark_less : (marks : List ℕ) (x : ℕ) → (unmarked (with_mark marks x) < unmarked marks) ⊎ (with_mark marks x ≡ marks)
mark_less marks x = elim (mark_cases marks x) [
  | inl u ↦ elim (cases_lt x (length marks)) [
    | inl l ↦ (let a = one_less marks x l u.0 in let b = ap unmarked u.1 in inl (omega arith))
    | inr l ↦ inr (u.1 ∙ set_past marks x 1 l)
  ]
  | inr u ↦ inr u.1
]

marks_less : (marks xs : List ℕ) → (unmarked (with_marks marks xs) < unmarked marks) ⊎ (with_marks marks xs ≡ marks)
marks_less marks [] = inr refl
marks_less marks (x ∷ xs) = elim (mark_less marks x) [
  | inl a ↦ elim (marks_less (with_mark marks x) xs) [ inl b ↦ inl (omega arith) | inr b ↦ (let e = ap unmarked b in inl (omega arith)) ]
  | inr a ↦ elim (marks_less (with_mark marks x) xs) [ inl b ↦ (let e = ap unmarked a in inl (omega arith)) | inr b ↦ inr (b ∙ a) ]
]

passed_cases : (marks : List ℕ) (i : InstructionV) → ((kept_by (is_marked marks) i ≡ true) × (passed marks i ≡ with_marks marks (reads i))) ⊎ ((kept_by (is_marked marks) i ≡ false) × (passed marks i ≡ marks))
passed_cases marks i = elim (cases_Bool (kept_by (is_marked marks) i)) [
  | inl e ↦ inl (e, pick_true (kept_by (is_marked marks) i) (with_marks marks (reads i)) marks e)
  | inr e ↦ inr (e, pick_false (kept_by (is_marked marks) i) (with_marks marks (reads i)) marks e)
]

passed_less : (marks : List ℕ) (i : InstructionV) → (unmarked (passed marks i) < unmarked marks) ⊎ (passed marks i ≡ marks)
passed_less marks i = elim (passed_cases marks i) [
  | inl u ↦ elim (marks_less marks (reads i)) [ inl a ↦ (let e = ap unmarked u.1 in inl (omega arith)) | inr a ↦ inr (u.1 ∙ a) ]
  | inr u ↦ inr u.1
]

all_less : (marks : List ℕ) (is : List InstructionV) → (unmarked (all_passed marks is) < unmarked marks) ⊎ (all_passed marks is ≡ marks)
all_less marks [] = inr refl
all_less marks (i ∷ is) = elim (all_less marks is) [
  | inl a ↦ elim (passed_less (all_passed marks is) i) [ inl b ↦ inl (omega arith) | inr b ↦ (let e = ap unmarked b in inl (omega arith)) ]
  | inr a ↦ elim (passed_less (all_passed marks is) i) [ inl b ↦ (let e = ap unmarked a in inl (omega arith)) | inr b ↦ inr (b ∙ a) ]
]

-- a round passes the rows of all blocks
all_after : (marks : List ℕ) (is js : List InstructionV) → all_passed marks (is ++ js) ≡ all_passed (all_passed marks js) is
all_after marks [] js = refl
all_after marks (i ∷ is) js = ap (λ (m : List ℕ). passed m i) (all_after marks is js)

pub round_is : (marks : List ℕ) (bs : List BlockV) → round_passed marks bs ≡ all_passed marks (rows_of bs)
round_is marks [] = refl
round_is marks (b ∷ bs) = ap (λ (m : List ℕ). all_passed m b.rows) (round_is marks bs) ∙ sym (all_after marks b.rows (rows_of bs))

-- nothing new: what a kept row reads is marked
all_same : (marks : List ℕ) (is : List InstructionV) → unmarked marks ≤ unmarked (all_passed marks is) → all_passed marks is ≡ marks
all_same marks is h = elim (all_less marks is) [ inl a ↦ absurd (omega arith) | inr a ↦ a ]

all_closed : (marks : List ℕ) (is : List InstructionV) → unmarked marks ≤ unmarked (all_passed marks is)
    → (i : InstructionV) → Lists is i → InRange marks (reads i) → kept_by (is_marked marks) i ≡ true → (x : ℕ) → In x (reads i) → Marked marks x
all_closed marks [] h i l r k x q = lists_none l
all_closed marks (j ∷ is) h i l r k x q =
    let below : unmarked marks ≤ unmarked (all_passed marks is) = elim (passed_less (all_passed marks is) j) [
      | inl a ↦ omega arith
      | inr a ↦ (let e = ap unmarked a in omega arith)
    ] in
    elim (lists_head l) [
      | inl e ↦
          let here_same : all_passed marks is ≡ marks = all_same marks is below in
          let whole : passed marks j ≡ marks = sym (ap (λ (m : List ℕ). passed m j) here_same) ∙ all_same marks (j ∷ is) h in
          let kj : kept_by (is_marked marks) j ≡ true = subst (λ (z : InstructionV). kept_by (is_marked marks) z ≡ true) e k in
          let set : with_marks marks (reads j) ≡ marks = sym (pick_true (kept_by (is_marked marks) j) (with_marks marks (reads j)) marks kj) ∙ whole in
          subst (λ (m : List ℕ). Marked m x) set (marks_set marks (reads j) x (subst (λ (z : InstructionV). InRange marks (reads z)) e r) (subst (λ (z : InstructionV). In x (reads z)) e q))
      | inr m ↦ all_closed marks is below i m r k x q
    ]

-- rows by what is needed
any_more : (p q : ℕ → Bool) → ((x : ℕ) → p x ≡ true → q x ≡ true) → (xs : List ℕ) → any p xs ≡ true → any q xs ≡ true
any_more p q f [] h = h
any_more p q f (x ∷ xs) h = elim (or_cases (p x) (any p xs) h) [
  | inl e ↦ or_left (q x) (any q xs) (f x e)
  | inr e ↦ or_right (q x) (any q xs) (any_more p q f xs e)
]

kept_by_more : (p q : ℕ → Bool) → ((x : ℕ) → p x ≡ true → q x ≡ true) → (i : InstructionV) → kept_by p i ≡ true → kept_by q i ≡ true
unfolding kept_by
kept_by_more p q f i h = elim (or_cases (acting i) (any p (writes i)) h) [
  | inl e ↦ or_left (acting i) (any q (writes i)) e
  | inr e ↦ or_right (acting i) (any q (writes i)) (any_more p q f (writes i) e)
]

kept_is : (xs : List ℕ) (i : InstructionV) → kept_by (λ x. within x xs) i ≡ kept xs i
unfolding kept_by
kept_is xs i = refl

same_answers : (a b : Bool) → (a ≡ true → b ≡ true) → (b ≡ true → a ≡ true) → a ≡ b
same_answers true b f g = sym (f refl)
same_answers false true f g = g refl
same_answers false false f g = refl

-- terminals
terminals_long : (marks : List ℕ) (bs : List BlockV) → length (terminals_marked marks bs) ≡ length marks
terminals_long marks [] = refl
terminals_long marks (b ∷ bs) = with_marks_long (terminals_marked marks bs) (identifiers_of b.places) ∙ terminals_long marks bs

terminals_only : (marks : List ℕ) (bs : List BlockV) (x : ℕ) → Marked (terminals_marked marks bs) x → In x (terminal_reads bs) ⊎ Marked marks x
terminals_only marks [] x h = inr h
terminals_only marks (b ∷ bs) x h = elim (marks_only (terminals_marked marks bs) (identifiers_of b.places) x h) [
  | inl i ↦ inl (in_left x (identifiers_of b.places) (terminal_reads bs) i)
  | inr m ↦ elim (terminals_only marks bs x m) [ inl i ↦ inl (in_right x (identifiers_of b.places) (terminal_reads bs) i) | inr k ↦ inr k ]
]

terminals_set : (marks : List ℕ) (bs : List BlockV) → InRange marks (terminal_reads bs) → (x : ℕ) → In x (terminal_reads bs) → Marked (terminals_marked marks bs) x
terminals_set marks [] r x h = absurd (both_ways false refl h)
terminals_set marks (b ∷ bs) r x h = elim (in_cases x (identifiers_of b.places) (terminal_reads bs) h) [
  | inl i ↦ marks_set (terminals_marked marks bs) (identifiers_of b.places) x (λ z q. let e = terminals_long marks bs in let l = r z (in_left z (identifiers_of b.places) (terminal_reads bs) q) in omega arith) i
  | inr i ↦ marks_keep (terminals_marked marks bs) (identifiers_of b.places) x (terminals_set marks bs (λ z q. r z (in_right z (identifiers_of b.places) (terminal_reads bs) q)) x i)
]

-- no mark is set
none_marked : (marks : List ℕ) (x : ℕ) → Zero marks → Marked marks x → ⊥
none_marked [] x z h = both_ways false refl h
none_marked (m ∷ marks) zero z h = both_ways (is_marked (m ∷ marks) 0) (is_marked_not (m ∷ marks) 0 z.0) h
none_marked (m ∷ marks) (suc x) z h = none_marked marks x z.1 h

module _ (bs : List BlockV) where
  -- what sweep needs
  abbrev need : List ℕ
  need = needed (suc (length (rows_of bs))) bs []

  -- nothing is marked that it does not need
  abbrev pub OnlyNeeded : List ℕ → Type 0
  OnlyNeeded marks = (x : ℕ) → Marked marks x → In x (round bs need)

  kept_needed : (marks : List ℕ) → OnlyNeeded marks → (i : InstructionV) → Lists (rows_of bs) i → kept_by (is_marked marks) i ≡ true → kept need i ≡ true
  kept_needed marks o i l k = stable bs i l (sym (kept_is (round bs need) i) ∙ kept_by_more (is_marked marks) (λ x. within x (round bs need)) o i k)

  only_passed : (marks : List ℕ) (i : InstructionV) → OnlyNeeded marks → Lists (rows_of bs) i → OnlyNeeded (passed marks i)
  only_passed marks i o l x h = elim (passed_cases marks i) [
    | inl u ↦ elim (marks_only marks (reads i) x (subst (λ (m : List ℕ). Marked m x) u.1 h)) [
      | inl r ↦ round_row bs need x i l (kept_needed marks o i l u.0) r
      | inr m ↦ o x m
    ]
    | inr u ↦ o x (subst (λ (m : List ℕ). Marked m x) u.1 h)
  ]

  only_all : (marks : List ℕ) (is : List InstructionV) → ((i : InstructionV) → Lists is i → Lists (rows_of bs) i) → OnlyNeeded marks → OnlyNeeded (all_passed marks is)
  only_all marks [] f o = o
  only_all marks (i ∷ is) f o = only_passed (all_passed marks is) i (only_all marks is (λ j l. f j (there l)) o) (f i here)

  pub only_round : (marks : List ℕ) → OnlyNeeded marks → OnlyNeeded (round_passed marks bs)
  only_round marks o = subst OnlyNeeded (sym (round_is marks bs)) (only_all marks (rows_of bs) (λ i l. l) o)

  -- what terminals read is marked
  abbrev pub AllTerminals : List ℕ → Type 0
  AllTerminals marks = (x : ℕ) → In x (terminal_reads bs) → Marked marks x

  -- at the start
  pub only_start : (marks : List ℕ) → Zero marks → OnlyNeeded (terminals_marked marks bs)
  only_start marks z x h = elim (terminals_only marks bs x h) [
    | inl i ↦ in_left x (terminal_reads bs) (gathered reads (select (kept need) (rows_of bs))) i
    | inr m ↦ absurd (none_marked marks x z m)
  ]

  pub terminals_start : (marks : List ℕ) → InRange marks (terminal_reads bs) → AllTerminals (terminals_marked marks bs)
  terminals_start marks r = terminals_set marks bs r

  all_keeps : (marks : List ℕ) (is : List InstructionV) (x : ℕ) → Marked marks x → Marked (all_passed marks is) x
  all_keeps marks [] x h = h
  all_keeps marks (i ∷ is) x h = elim (passed_cases (all_passed marks is) i) [
    | inl u ↦ subst (λ (m : List ℕ). Marked m x) (sym u.1) (marks_keep (all_passed marks is) (reads i) x (all_keeps marks is x h))
    | inr u ↦ subst (λ (m : List ℕ). Marked m x) (sym u.1) (all_keeps marks is x h)
  ]

  pub terminals_round : (marks : List ℕ) → AllTerminals marks → AllTerminals (round_passed marks bs)
  terminals_round marks t x h = subst (λ (m : List ℕ). Marked m x) (sym (round_is marks bs)) (all_keeps marks (rows_of bs) x (t x h))

  -- what sweep needs is marked
  needed_marked : (marks : List ℕ) → AllTerminals marks → ((i : InstructionV) → Lists (rows_of bs) i → kept_by (is_marked marks) i ≡ true → (x : ℕ) → In x (reads i) → Marked marks x)
      → (n : ℕ) (xs : List ℕ) → ((x : ℕ) → In x xs → Marked marks x) → (x : ℕ) → In x (needed n bs xs) → Marked marks x
  needed_marked marks t closed zero xs f = f
  needed_marked marks t closed (suc n) xs f = needed_marked marks t closed n (round bs xs) (λ x q. elim (round_cases bs xs x q) [
    | inl u ↦ t x u
    | inr u ↦ closed u.0 u.1 (kept_by_more (λ z. within z xs) (is_marked marks) f u.0 (kept_is xs u.0 ∙ u.2)) x u.3
  ])

  -- nothing new is marked: the marks did not change
  pub round_same : (marks : List ℕ) → unmarked marks ≤ unmarked (round_passed marks bs) → round_passed marks bs ≡ marks
  round_same marks h = round_is marks bs ∙ all_same marks (rows_of bs) (subst (λ (v : List ℕ). unmarked marks ≤ unmarked v) (round_is marks bs) h)

  -- at the end
  pub settled : (marks : List ℕ) → OnlyNeeded marks → AllTerminals marks → unmarked marks ≤ unmarked (round_passed marks bs)
      → ((i : InstructionV) → Lists (rows_of bs) i → InRange marks (reads i)) → MarksNeeded bs marks
  settled marks o t same range i l =
      let closed : (i : InstructionV) → Lists (rows_of bs) i → kept_by (is_marked marks) i ≡ true → (x : ℕ) → In x (reads i) → Marked marks x =
      λ j m. all_closed marks (rows_of bs) (subst (λ (v : List ℕ). unmarked marks ≤ unmarked v) (round_is marks bs) same) j m (range j m) in
      let all : (n : ℕ) (xs : List ℕ) → ((x : ℕ) → In x xs → Marked marks x) → (x : ℕ) → In x (needed n bs xs) → Marked marks x = needed_marked marks t closed in
      same_answers (kept_by (is_marked marks) i) (kept need i) (kept_needed marks o i l)
      (λ k. kept_by_more (λ x. within x need) (is_marked marks) (all (suc (length (rows_of bs))) [] (λ x q. absurd (both_ways false refl q))) i (kept_is need i ∙ k))
