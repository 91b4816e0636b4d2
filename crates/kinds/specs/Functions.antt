-- The types of functions and the ways to bind a variable, by number.
use Rattle.std.specs.Prelude.{List, codes, ℕ}
use Rattle.kinds.specs.declared.functions.FunctionType.{FunctionType}
use Rattle.kinds.specs.declared.functions.InstructionKind.{InstructionKind}

abbrev pub number_of_function_type : FunctionType → ℕ
number_of_function_type FunctionType.Component = 0
number_of_function_type FunctionType.Hook = 1
number_of_function_type FunctionType.Other = 2

abbrev pub name_of_function_type : FunctionType → List ℕ
name_of_function_type FunctionType.Component = codes "Component"
name_of_function_type FunctionType.Hook = codes "Hook"
name_of_function_type FunctionType.Other = codes "Other"

abbrev pub number_of_instruction_kind : InstructionKind → ℕ
number_of_instruction_kind InstructionKind.Const = 0
number_of_instruction_kind InstructionKind.Let = 1
number_of_instruction_kind InstructionKind.Reassign = 2
number_of_instruction_kind InstructionKind.Catch = 3
number_of_instruction_kind InstructionKind.HoistedConst = 4
number_of_instruction_kind InstructionKind.HoistedLet = 5
number_of_instruction_kind InstructionKind.HoistedFunction = 6
number_of_instruction_kind InstructionKind.Function = 7

abbrev pub name_of_instruction_kind : InstructionKind → List ℕ
name_of_instruction_kind InstructionKind.Const = codes "Const"
name_of_instruction_kind InstructionKind.Let = codes "Let"
name_of_instruction_kind InstructionKind.Reassign = codes "Reassign"
name_of_instruction_kind InstructionKind.Catch = codes "Catch"
name_of_instruction_kind InstructionKind.HoistedConst = codes "HoistedConst"
name_of_instruction_kind InstructionKind.HoistedLet = codes "HoistedLet"
name_of_instruction_kind InstructionKind.HoistedFunction = codes "HoistedFunction"
name_of_instruction_kind InstructionKind.Function = codes "Function"
