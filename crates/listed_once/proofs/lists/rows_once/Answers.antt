use Rattle.std.proofs.Common.{◌≡◌, ◌+◌, ◌-◌, ◌<◌, length, get_or, set, take, drop, sym, subst, arith}
use Rattle.hir.specs.declared.rows.Run.{Run}
use Rattle.hir.specs.View.{null_block}
use Rattle.hir.proofs.Runs.{covers, getD_run}
use Rattle.listed_once.specs.Listing.{listed_at}
use Rattle.listed_once.proofs.Read.{Read, next}
use Rattle.listed_once.proofs.lists.rows_once.Goals as goal

pub loop-row-preserved : goal.loop-row-preserved
loop-row-preserved c =
    let bs = c.args.blocks.now in
    let ns = c.args.numbers.now in
    let i = c.loop-block.block-index in
    let j = c.loop-row.row-index in
    let ms = c.loop-row.marks in
    let run : Run = (get_or bs i null_block).instructions in
    let all : run.first + run.count - run.first ≡ run.count = omega arith in
    let k = covers run ns j (subst (λ n. j < length (take n (drop run.first ns))) all c.loop-row-test.true) in
    let e : get_or (take (run.first + run.count - run.first) (drop run.first ns)) j 0 ≡ listed_at bs ns i j = rw all (getD_run run ns j 0 k.0) in
    let row_fits = c.requires.below i j c.loop-block-test.true k.0 in
    subst (λ row. Read bs ns i (j + 1) (set ms row 1)) (sym e) (next bs ns i j ms c.loop-row.invariant (subst (λ row. get_or ms row 0 ≡ 0) e c.if-mark-ne0.false) (omega arith) k.0)
