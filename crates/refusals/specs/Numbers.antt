-- The number of each refusal.
use Rattle.std.specs.Prelude.{ℕ}
use Rattle.refusals.specs.declared.Refusal.{Refusal}
use Rattle.refusals.specs.declared.Refusal.TheVariants.{UsedCount, FunctionNumber, StoreForm, InnerFunctions, RowOrder, ReadsAndWrites, ChildNamedKey, MarkBytes, SpareRows, Memory}

abbrev pub number_of : Refusal → ℕ
number_of UsedCount = 1
number_of FunctionNumber = 2
number_of StoreForm = 3
number_of InnerFunctions = 4
number_of RowOrder = 5
number_of ReadsAndWrites = 6
number_of ChildNamedKey = 7
number_of MarkBytes = 8
number_of SpareRows = 9
-- above the numbers of all formats
number_of Memory = 255
