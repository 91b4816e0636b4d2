-- Blocks marked one after another.
use Rattle.std.proofs.Common.{◌≡◌, ℕ, zero, suc, ◌+◌, ◌<◌, ◌≤◌, List, [], ◌∷◌, ◌++◌, length, get_or, take, drop, sym, refl, ap, ◌∙◌, subst, inl, inr, append_assoc, append-nil, add-one, arith, take_all}
use Rattle.std.proofs.lemmas.Bool.{cases_Bool}
use Rattle.rules.specs.Lists.{within, gathered, Distinct}
use Rattle.rules.specs.Views.{BlockV, FunctionV, writes, rows_of, block_rows}
use Rattle.rules.specs.Drawn.{Ordered, OrderedBlocks}
use Rattle.refusals.specs.Walked.{WritesSound}
use Rattle.read_write.specs.Written.{Markable, Marked, RowsSound, RowsDone}
use Rattle.read_write.proofs.Marks.{then_after, able_left, able_after, wider}
use Rattle.rules.proofs.Membership.{gathered-++}

-- the rows of the blocks before k, of block k, and of those after it
rows_before : (bs : List BlockV) (k : ℕ) → k < length bs → rows_of (take (k + 1) bs) ≡ rows_of (take k bs) ++ block_rows bs k
rows_before [] k h = absurd (omega arith)
rows_before (b ∷ bs) zero h = append-nil b.rows
rows_before (b ∷ bs) (suc k) h = rw add-one (ap (λ zs. b.rows ++ zs) (rw add-one at (rows_before bs k (omega arith))) ∙ sym (append_assoc b.rows (rows_of (take k bs)) (block_rows bs k)))

rows_around : (bs : List BlockV) (k : ℕ) → k < length bs → rows_of bs ≡ rows_of (take k bs) ++ (block_rows bs k ++ rows_of (drop (k + 1) bs))
rows_around [] k h = absurd (omega arith)
rows_around (b ∷ bs) zero h = refl
rows_around (b ∷ bs) (suc k) h = rw add-one (ap (λ zs. b.rows ++ zs) (rw add-one at (rows_around bs k (omega arith))) ∙ sym (append_assoc b.rows (rows_of (take k bs)) (block_rows bs k ++ rows_of (drop (suc k) bs))))

ordered_more : (bs : List BlockV) (k : ℕ) → k < length bs → OrderedBlocks (take k bs) → Ordered (block_rows bs k) → OrderedBlocks (take (k + 1) bs)
ordered_more [] k h o n = absurd (omega arith)
ordered_more (b ∷ bs) zero h o n = (n, tt)
ordered_more (b ∷ bs) (suc k) h o n = rw add-one (o.0, rw add-one at (ordered_more bs k (omega arith) o.1 n))

ordered_at : (bs : List BlockV) (k : ℕ) → k < length bs → OrderedBlocks bs → Ordered (block_rows bs k)
ordered_at [] k h o = absurd (omega arith)
ordered_at (b ∷ bs) zero h o = o.0
ordered_at (b ∷ bs) (suc k) h o = ordered_at bs k (omega arith) o.1

-- the blocks before k
pub record BlocksDone (base k : ℕ) (bs : List BlockV) (before now : List ℕ) : Type 0 where
  pub marked : Marked base (base + 1) (base + k) (gathered writes (rows_of (take k bs))) before now
  pub ordered : OrderedBlocks (take k bs)

pub at_most : {base k : ℕ} {bs : List BlockV} {ms ns : List ℕ} → ((x : ℕ) → get_or ms x 0 ≤ base) → BlocksDone base k bs ms ns → (x : ℕ) → get_or ns x 0 ≤ base + k
at_most {base} {k} {bs} low d x = elim (cases_Bool (within x (gathered writes (rows_of (take k bs))))) [
  | inl i ↦ (d.marked.marked x i).1
  | inr o ↦ let e = d.marked.others x o in let l = low x in omega arith
]

pub block_more : {base k : ℕ} {bs : List BlockV} {ms ns os : List ℕ} → k < length bs → BlocksDone base k bs ms ns → RowsDone base (base + k + 1) (block_rows bs k) ns os → BlocksDone base (k + 1) bs ms os
block_more {base} {k} {bs} {ms} {ns} {os} l d r = record {
  marked = subst (λ zs. Marked base (base + 1) (base + (k + 1)) zs ms os) (sym (ap (gathered writes) (rows_before bs k l) ∙ gathered-++ writes (rows_of (take k bs)) (block_rows bs k)))
      (then_after base (base + 1) (base + k) (base + (k + 1)) (omega arith) (omega arith) (gathered writes (rows_of (take k bs))) (gathered writes (block_rows bs k)) ms ns os d.marked
      (wider base (base + k + 1) (base + 1) (base + k + 1) (base + (k + 1)) (gathered writes (block_rows bs k)) ns os (omega arith) (omega arith) r.marked));
  ordered = ordered_more bs k l d.ordered r.ordered;
}

pub block_refused : {base k : ℕ} (g : FunctionV) {ms ns : List ℕ} → k < length g.blocks → ((x : ℕ) → get_or ms x 0 ≤ base) → BlocksDone base k g.blocks ms ns → (RowsSound base (block_rows g.blocks k) ns → ⊥) → WritesSound g → ⊥
block_refused {base} {k} g {ms} {ns} l low d u w =
    let bs = g.blocks in
    let before = gathered writes (rows_of (take k bs)) in
    let here = gathered writes (block_rows bs k) in
    let after = gathered writes (rows_of (drop (k + 1) bs)) in
    let e : gathered writes (rows_of bs) ≡ before ++ (here ++ after) = ap (gathered writes) (rows_around bs k l) ∙ gathered-++ writes (rows_of (take k bs)) (block_rows bs k ++ rows_of (drop (k + 1) bs)) ∙ ap (λ zs. before ++ zs) (gathered-++ writes (block_rows bs k) (rows_of (drop (k + 1) bs))) in
    let m : Markable base (before ++ (here ++ after)) ms = subst (λ zs. Markable base zs ms) e (record { once = w.once; free = λ x i. low x }) in
    u (record { able = able_left base here after ns (able_after base (base + 1) (base + k) before (here ++ after) ms ns d.marked m); ordered = ordered_at bs k l w.ordered })

pub all_blocks_done : {base k : ℕ} (g : FunctionV) {ms ns : List ℕ} → length g.blocks ≤ k → BlocksDone base k g.blocks ms ns → WritesSound g
all_blocks_done {k = k} g l d =
    let e = take_all k g.blocks l in
    record { once = subst (λ bs. Distinct (gathered writes (rows_of bs))) e d.marked.able.once; ordered = subst OrderedBlocks e d.ordered }
