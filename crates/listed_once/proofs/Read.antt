-- What the marks say once all positions before offset j of block i are read.
use Rattle.std.proofs.Common.{◌≡◌, ℕ, ◌+◌, ◌<◌, ◌≢◌, ◌⊎◌, List, length, get_or, set, inl, inr, sym, ap, ap₂, ◌∙◌, arith}
use Rattle.std.proofs.lemmas.Bool.{cases_eq}
use Rattle.std.proofs.lemmas.List.{get_or-set_same, get_or-set_other}
use Rattle.hir.specs.declared.rows.BasicBlock.{BasicBlock}
use Rattle.listed_once.specs.Listing.{listing, listed_at}

-- the position (b, o) comes before (i, j)
abbrev pub Before : ℕ → ℕ → ℕ → ℕ → Type 0
Before i j b o = (b < i) ⊎ ((b ≡ i) × (o < j))

pub record Read (bs : List BasicBlock) (ns : List ℕ) (i j : ℕ) (ms : List ℕ) : Type 0 where
  pub once : (b o b' o' : ℕ) → o < listing bs b → o' < listing bs b' → Before i j b o → Before i j b' o' → listed_at bs ns b o ≡ listed_at bs ns b' o' → (b ≡ b') × (o ≡ o')
  pub marked : (b o : ℕ) → o < listing bs b → Before i j b o → 0 < get_or ms (listed_at bs ns b o) 0
  pub seen : (x : ℕ) → 0 < get_or ms x 0 → (b : ℕ) × (o : ℕ) × (o < listing bs b) × Before i j b o × (listed_at bs ns b o ≡ x)

-- a position before the next one is before this one, or is this one
last_or_before : (i j b o : ℕ) → Before i (j + 1) b o → Before i j b o ⊎ ((b ≡ i) × (o ≡ j))
last_or_before i j b o (inl h) = inl (inl h)
last_or_before i j b o (inr h) = elim (cases_eq o j) [
  | inl e ↦ inr (h.0, e)
  | inr n ↦ let l = h.1 in inl (inr (h.0, omega arith))
]

earlier : (i j b o : ℕ) → Before i j b o → Before i (j + 1) b o
earlier i j b o (inl h) = inl h
earlier i j b o (inr h) = let l = h.1 in inr (h.0, omega arith)

-- one position more, whose row had no mark
pub next : (bs : List BasicBlock) (ns : List ℕ) (i j : ℕ) (ms : List ℕ) → Read bs ns i j ms → get_or ms (listed_at bs ns i j) 0 ≡ 0 → listed_at bs ns i j < length ms → j < listing bs i → Read bs ns i (j + 1) (set ms (listed_at bs ns i j) 1)
next bs ns i j ms h z l k =
    let row = listed_at bs ns i j in
    let here : (b o : ℕ) → (b ≡ i) × (o ≡ j) → listed_at bs ns b o ≡ row = λ b o e. ap₂ (listed_at bs ns) e.0 e.1 in
    let old : (b o : ℕ) → o < listing bs b → Before i j b o → listed_at bs ns b o ≢ row = λ b o lo p e. let m = h.marked b o lo p in let g = ap (λ x. get_or ms x 0) e in omega arith in
    record {
      once = λ b o b' o' lo lo' p p' e. elim (last_or_before i j b o p) [
        | inl q ↦ elim (last_or_before i j b' o' p') [
          | inl q' ↦ h.once b o b' o' lo lo' q q' e
          | inr q' ↦ absurd (old b o lo q (e ∙ here b' o' q'))
        ]
        | inr q ↦ elim (last_or_before i j b' o' p') [
          | inl q' ↦ absurd (old b' o' lo' q' (sym e ∙ here b o q))
          | inr q' ↦ (q.0 ∙ sym q'.0, q.1 ∙ sym q'.1)
        ]
      ];
      marked = λ b o lo p. elim (last_or_before i j b o p) [
        | inl q ↦ let m = h.marked b o lo q in let e = get_or-set_other ms row (listed_at bs ns b o) 1 0 (old b o lo q) in omega arith
        | inr q ↦ let e = here b o q in let g = get_or-set_same ms row 1 0 l in rw e (omega arith)
      ];
      seen = λ x m. elim (cases_eq x row) [
        | inl e ↦ (i, j, k, inr (λ _. i, omega arith), sym e)
        | inr n ↦ let w = h.seen x (let g = get_or-set_other ms row x 1 0 n in omega arith) in (w.0, w.1, w.2, earlier i j w.0 w.1 w.3, w.4)
      ];
    }
