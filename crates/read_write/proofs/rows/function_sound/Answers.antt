use Rattle.std.proofs.Common.{◌+◌, subst, arith}
use Rattle.hir.specs.Tables.{tables}
use Rattle.hir.proofs.Seen.{function_fits}
use Rattle.reading.specs.Stored.{function_seen}
use Rattle.read_write.specs.Written.{RowsSound, RowsDone}
use Rattle.read_write.proofs.BlockMarks.{at_most, block_more, block_refused, all_blocks_done}
use Rattle.read_write.proofs.rows.function_sound.Goals as goal

pub returns-then-not-list_sound : goal.returns-then-not-list_sound
returns-then-not-list_sound c =
    block_refused (function_seen c.args.function) (omega arith) c.requires.low c.loop-k.invariant (subst (λ is. RowsSound c.args.base is c.loop-k.marks → ⊥) c.list.ensures.seen c.if-not-list_sound.ensures)

pub loop-k-preserved : goal.loop-k-preserved
loop-k-preserved c =
    block_more (omega arith) c.loop-k.invariant (subst (λ is. RowsDone c.args.base (c.args.base + c.loop-k.k + 1) is c.loop-k.marks c.list_sound.new.marks) c.list.ensures.seen c.if-not-list_sound.ensures)

pub returns : goal.returns
returns c =
    let few = (function_fits (tables c.args.function.store.now) c.args.function.legible c.args.function.id.0 c.args.function.used).blocks in (
      all_blocks_done (function_seen c.args.function) (omega arith) c.loop-k.invariant,
      λ x. let m = at_most c.requires.low c.loop-k.invariant x in omega (arith, m, c.loop-k.auto.k-end),
    )
