-- What the four tests show together, and what they show each.
use Rattle.std.proofs.Common.{◌≡◌, ℕ, ◌+◌, ◌-◌, ◌<◌, ◌≤◌, ◌≢◌, ◌⊎◌, List, length, get_or, sym, ◌∙◌, subst, inl, inr, arith, length-take-le}
use Rattle.std.specs.List.{AllByRecursion}
use Rattle.std.proofs.lemmas.List.{get_or_default}
use Rattle.std.proofs.ByRecursion.{All-get_or, All-from_get_or, All-weaker}
use Rattle.std.proofs.lemmas.Bool.{cases_eq}
use Rattle.std.proofs.lemmas.Bool.Decides.{leb_tells}
use Rattle.hir.specs.declared.rows.Run.{Run}
use Rattle.hir.specs.declared.rows.Counts.{Counts}
use Rattle.hir.specs.declared.rows.BasicBlock.{BasicBlock}
use Rattle.hir.specs.Used.{in_run}
use Rattle.hir.specs.View.{Rows, rows, null_block, null_function}
use Rattle.hir.specs.WellFormed.{RunFits, Counted, Clear, Pairwise, Unlike, BlocksApart, FunctionsApart}
use Rattle.hir.proofs.Runs.{getD_run, covers, covered, clear_other_way}
use Rattle.hir.proofs.Pairs.{pairwise_at}
use Rattle.hir.specs.Tables.{Tables}
use Rattle.refusals.specs.Form.{BlockFormed, RowsApart, RowsFormed}
use Rattle.listed_once.specs.Marking.{AllClear, list_or_preds}
use Rattle.listed_once.specs.Listing.{listing, listed_at, ListsFit, ListedOnce, BlockNamed}
use Rattle.listed_once.proofs.Marks.{as_list, as_preds}

-- what the tests show
pub record Parts (c : Counts) (r : Rows) : Type 0 where
  pub lists : AllClear (list_or_preds r.blocks) (length r.blocks + length r.blocks)
  pub functions : AllClear (λ f. (get_or r.functions f null_function).blocks) (length r.functions)
  pub named : AllByRecursion (BlockNamed r.numbers c.instructions c.blocks) r.blocks
  pub once : ListedOnce r.blocks r.numbers

-- a listed row by its offset in the block's list
at_offset : (bs : List BasicBlock) (ns : List ℕ) (b k d : ℕ) → k < length (in_run ns (get_or bs b null_block).instructions) → (k < listing bs b) × (get_or (in_run ns (get_or bs b null_block).instructions) k d ≡ listed_at bs ns b k)
at_offset bs ns b k d h =
    let run : Run = (get_or bs b null_block).instructions in
    let g = covers run ns k h in
    (g.0, get_or_default (in_run ns run) k d 0 h ∙ getD_run run ns k 0 g.0)

-- a row that stands in the list of block b, at one position only
list_once : (bs : List BasicBlock) (ns : List ℕ) → ListedOnce bs ns → (b : ℕ) → b < length bs → Pairwise ◌≢◌ (in_run ns (get_or bs b null_block).instructions)
list_once bs ns o b h i j d hi hj ne e =
    let p = at_offset bs ns b i d hi in
    let q = at_offset bs ns b j d hj in
    ne (o b i b j h p.0 h q.0 (sym p.1 ∙ e ∙ q.1)).1

lists_unlike : (bs : List BasicBlock) (ns : List ℕ) → ListedOnce bs ns → (a b : ℕ) → a < length bs → b < length bs → a ≢ b → Unlike (in_run ns (get_or bs a null_block).instructions) (in_run ns (get_or bs b null_block).instructions)
lists_unlike bs ns o a b ha hb ne k l d hk hl e =
    let p = at_offset bs ns a k d hk in
    let q = at_offset bs ns b l d hl in
    ne (o a k b l ha p.0 hb q.0 (sym p.1 ∙ e ∙ q.1)).0

-- two blocks, by the runs of both
two_blocks : (bs : List BasicBlock) (ns : List ℕ) → AllClear (list_or_preds bs) (length bs + length bs) → ListedOnce bs ns → (a b : ℕ) → a < length bs → b < length bs → a ≢ b → BlocksApart ns (get_or bs a null_block) (get_or bs b null_block)
two_blocks bs ns l o a b ha hb ne =
    let n = length bs in
    record {
      lists = subst (λ (x : Run). Clear x (get_or bs b null_block).instructions) (sym (as_list bs a ha)) (subst (λ (y : Run). Clear (list_or_preds bs a) y) (sym (as_list bs b hb)) (l a b (omega arith) (omega arith) ne));
      list_preds = subst (λ (x : Run). Clear x (get_or bs b null_block).preds) (sym (as_list bs a ha)) (subst (λ (y : Run). Clear (list_or_preds bs a) y) (sym (as_preds bs b)) (l a (n + b) (omega arith) (omega arith) (omega arith)));
      preds_list = subst (λ (x : Run). Clear x (get_or bs b null_block).instructions) (sym (as_preds bs a)) (subst (λ (y : Run). Clear (list_or_preds bs (n + a)) y) (sym (as_list bs b hb)) (l (n + a) b (omega arith) (omega arith) (omega arith)));
      preds = subst (λ (x : Run). Clear x (get_or bs b null_block).preds) (sym (as_preds bs a)) (subst (λ (y : Run). Clear (list_or_preds bs (n + a)) y) (sym (as_preds bs b)) (l (n + a) (n + b) (omega arith) (omega arith) (omega arith)));
      rows = lists_unlike bs ns o a b ha hb ne;
    }

own_runs : (bs : List BasicBlock) → AllClear (list_or_preds bs) (length bs + length bs) → (b : ℕ) → b < length bs → Clear (get_or bs b null_block).instructions (get_or bs b null_block).preds
own_runs bs l b h = subst (λ (x : Run). Clear x (get_or bs b null_block).preds) (sym (as_list bs b h)) (subst (λ (y : Run). Clear (list_or_preds bs b) y) (sym (as_preds bs b)) (l b (length bs + b) (omega arith) (omega arith) (omega arith)))

pub together : (c : Counts) (r : Rows) → Parts c r → RowsApart c r
together c r p =
    let bs = r.blocks in
    record {
      listed = All-weaker (BlockNamed r.numbers c.instructions c.blocks) (λ (b : BasicBlock). AllByRecursion (λ n. n < c.instructions) (in_run r.numbers b.instructions)) (λ b h. h.listed) bs p.named;
      preds = All-weaker (BlockNamed r.numbers c.instructions c.blocks) (λ (b : BasicBlock). AllByRecursion (λ n. n < c.blocks) (in_run r.numbers b.preds)) (λ b h. h.preds) bs p.named;
      once = All-from_get_or (λ (b : BasicBlock). Pairwise ◌≢◌ (in_run r.numbers b.instructions)) bs null_block (list_once bs r.numbers p.once);
      own = All-from_get_or (λ (b : BasicBlock). Clear b.instructions b.preds) bs null_block (own_runs bs p.lists);
      blocks = pairwise_at (BlocksApart r.numbers) bs null_block (two_blocks bs r.numbers p.lists p.once);
      functions = pairwise_at FunctionsApart r.functions null_function p.functions;
    }

pub then_named : (c : Counts) (r : Rows) → RowsApart c r → AllByRecursion (BlockNamed r.numbers c.instructions c.blocks) r.blocks
then_named c r a = All-from_get_or (BlockNamed r.numbers c.instructions c.blocks) r.blocks null_block (λ i h. record {
  listed = All-get_or (λ (b : BasicBlock). AllByRecursion (λ n. n < c.instructions) (in_run r.numbers b.instructions)) r.blocks i null_block h a.listed;
  preds = All-get_or (λ (b : BasicBlock). AllByRecursion (λ n. n < c.blocks) (in_run r.numbers b.preds)) r.blocks i null_block h a.preds;
})

pub then_once : (c : Counts) (r : Rows) → ListsFit r.blocks r.numbers → RowsApart c r → ListedOnce r.blocks r.numbers
then_once c r f a b o b' o' hb ho hb' ho' e =
    let bs = r.blocks in
    let ns = r.numbers in
    let run : Run = (get_or bs b null_block).instructions in
    let run' : Run = (get_or bs b' null_block).instructions in
    let g = f b hb in
    let g' = f b' hb' in
    let p : o < length (in_run ns run) = covered run ns o ho (omega arith) in
    let p' : o' < length (in_run ns run') = covered run' ns o' ho' (omega arith) in
    let same : get_or (in_run ns run) o 0 ≡ get_or (in_run ns run') o' 0 = getD_run run ns o 0 ho ∙ e ∙ sym (getD_run run' ns o' 0 ho') in
    elim (cases_eq b b') [
      | inl eb ↦ (
        eb,
        elim (cases_eq o o') [
          | inl eo ↦ eo
          | inr other ↦ absurd (All-get_or (λ (x : BasicBlock). Pairwise ◌≢◌ (in_run ns x.instructions)) bs b null_block hb a.once o o' 0 p
              (subst (λ v. o' < length (in_run ns (get_or bs v null_block).instructions)) (sym eb) p') other
              (same ∙ subst (λ v. get_or (in_run ns run') o' 0 ≡ get_or (in_run ns (get_or bs v null_block).instructions) o' 0) (sym eb) (λ _. get_or (in_run ns run') o' 0)))
        ],
      )
      | inr nb ↦ absurd ((a.blocks b b' null_block hb hb' nb).rows o o' 0 p p' same)
    ]

-- a position among the runs: a list, or the predecessors of the block so many further on
where_from : (bs : List BasicBlock) (j : ℕ) → j < length bs + length bs → (j < length bs) ⊎ ((i : ℕ) × (i < length bs) × (length bs + i ≡ j))
where_from bs j h = elim (leb_tells (length bs) j) [
  | inl t ↦ let p = t.1 in inr (j - length bs, omega arith, omega arith)
  | inr t ↦ inl t.1
]

pub then_lists : (c : Counts) (r : Rows) → RowsApart c r → AllClear (list_or_preds r.blocks) (length r.blocks + length r.blocks)
then_lists c r a i j hi hj ne =
    let bs = r.blocks in
    let own : (b : ℕ) → b < length bs → Clear (get_or bs b null_block).instructions (get_or bs b null_block).preds = λ b h. All-get_or (λ (x : BasicBlock). Clear x.instructions x.preds) bs b null_block h a.own in
    elim (where_from bs i hi) [
      | inl li ↦ elim (where_from bs j hj) [
        | inl lj ↦ subst (λ (x : Run). Clear x (list_or_preds bs j)) (as_list bs i li) (subst (λ (y : Run). Clear (get_or bs i null_block).instructions y) (as_list bs j lj) (a.blocks i j null_block li lj ne).lists)
        | inr pj ↦ subst (λ v. Clear (list_or_preds bs i) (list_or_preds bs v)) pj.2 (subst (λ (x : Run). Clear x (list_or_preds bs (length bs + pj.0))) (as_list bs i li) (subst (λ (y : Run). Clear (get_or bs i null_block).instructions y) (as_preds bs pj.0)
            (elim (cases_eq i pj.0) [
              | inl e ↦ subst (λ v. Clear (get_or bs i null_block).instructions (get_or bs v null_block).preds) e (own i li)
              | inr n ↦ (a.blocks i pj.0 null_block li pj.1 n).list_preds
            ])))
      ]
      | inr pi ↦ elim (where_from bs j hj) [
        | inl lj ↦ subst (λ v. Clear (list_or_preds bs v) (list_or_preds bs j)) pi.2 (subst (λ (x : Run). Clear x (list_or_preds bs j)) (as_preds bs pi.0) (subst (λ (y : Run). Clear (get_or bs pi.0 null_block).preds y) (as_list bs j lj)
            (elim (cases_eq pi.0 j) [
              | inl e ↦ subst (λ v. Clear (get_or bs pi.0 null_block).preds (get_or bs v null_block).instructions) e (clear_other_way (get_or bs pi.0 null_block).instructions (get_or bs pi.0 null_block).preds (own pi.0 pi.1))
              | inr n ↦ (a.blocks pi.0 j null_block pi.1 lj n).preds_list
            ])))
        | inr pj ↦ let d : pi.0 ≢ pj.0 = λ e. let x = pi.2 in let y = pj.2 in ne (omega arith) in
            subst (λ v. Clear (list_or_preds bs v) (list_or_preds bs j)) pi.2 (subst (λ v. Clear (list_or_preds bs (length bs + pi.0)) (list_or_preds bs v)) pj.2
            (subst (λ (x : Run). Clear x (list_or_preds bs (length bs + pj.0))) (as_preds bs pi.0) (subst (λ (y : Run). Clear (get_or bs pi.0 null_block).preds y) (as_preds bs pj.0) (a.blocks pi.0 pj.0 null_block pi.1 pj.1 d).preds)))
      ]
    ]

-- What the tests ask for holds of rows in form.

pub lists_fit : (t : Tables) (m : ℕ) → RowsFormed t.counts (rows t) → t.counts.numbers ≤ m → (b : ℕ) → b < length (rows t).blocks → RunFits (get_or (rows t).blocks b null_block).instructions m
lists_fit t m f h b l = let g = (All-get_or (BlockFormed t.counts (rows t).places) (rows t).blocks b null_block l f.blocks).instructions in omega arith

pub all_numbers : (t : Tables) → Counted t → t.counts.numbers ≤ length (rows t).numbers
all_numbers t h = let e = length-take-le t.counts.numbers t.numbers (let g = h.numbers.in_table in omega arith) in omega arith
