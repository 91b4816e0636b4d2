use Rattle.std.specs.Iterator.Adapters.{rev_source}
use Rattle.std.specs.Slice.Iter.{iter_rest}
use Rattle.hir.specs.Tables.{tables}
use Rattle.hir.specs.View.{rows}
use Rattle.read_write.proofs.RowMarks.{RowsMarked}
use Rattle.read_write.proofs.turn.Turn.list_sound.Given as goal

-- what the iterator has left is the start of the list, and the rows after it are done
abbrev pub invariant-loop-number : goal.invariant-loop-number
invariant-loop-number l = RowsMarked l.self.base l.self.own (rows (tables l.list.store.now)) l.list.numbers.now (iter_rest (rev_source l.number-iterator)) l.initial.marks l.marks
