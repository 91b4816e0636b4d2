-- What is seen of a function, and of a list of rows.
use Rattle.std.specs.Prelude.{List}
use Rattle.rules.specs.Views.{InstructionV, FunctionV, function_at}
use Rattle.hir.specs.Tables.{tables}
use Rattle.hir.specs.View.{rows, view, instructions_at}
use Rattle.reading.specs.declared.stored.StoredFunction.{StoredFunction}
use Rattle.reading.specs.declared.stored.RowList.{RowList}

abbrev pub function_seen : StoredFunction → FunctionV
function_seen f = function_at (view (tables f.store.now)) f.id.0

-- the rows of a list, in its order
abbrev pub rows_in : RowList → List InstructionV
rows_in l = instructions_at (rows (tables l.store.now)) l.numbers.now
