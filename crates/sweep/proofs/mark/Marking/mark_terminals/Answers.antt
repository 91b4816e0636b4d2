use Rattle.std.proofs.Common.{◌-◌, arith}
use Rattle.rules.specs.Views.{identifiers_of}
use Rattle.reading.specs.declared.stored.StoredFunction.{StoredFunction}
use Rattle.reading.specs.Stored.{function_seen}
use Rattle.sweep.specs.Marks.{terminal_at, with_marks}
use Rattle.sweep.proofs.Reading.{terminals_more}
use Rattle.sweep.proofs.Steps.{leaves_then}
use Rattle.sweep.proofs.mark.Marking.mark_terminals.Goals as goal

pub loop-k-preserved : goal.loop-k-preserved
loop-k-preserved c = leaves_then (λ (f : StoredFunction) ms. with_marks ms (identifiers_of (terminal_at (function_seen f).blocks (c.loop-k.k - 1)))) c.loop-k.invariant c.mark_terminal.ensures
    (terminals_more c.args.self.now.marks.now (function_seen c.args.self.now.function).blocks c.loop-k.k (omega arith) (omega arith))
