-- The kinds and the ends of blocks, by number.
use Rattle.std.specs.Prelude.{List, codes, ℕ}
use Rattle.kinds.specs.declared.blocks.BlockKind.{BlockKind}
use Rattle.kinds.specs.declared.blocks.Terminal.{Terminal}
use Rattle.kinds.specs.declared.blocks.ReturnVariant.{ReturnVariant}

abbrev pub number_of_block_kind : BlockKind → ℕ
number_of_block_kind BlockKind.Block = 0
number_of_block_kind BlockKind.Value = 1
number_of_block_kind BlockKind.Loop = 2
number_of_block_kind BlockKind.Sequence = 3
number_of_block_kind BlockKind.Catch = 4

abbrev pub name_of_block_kind : BlockKind → List ℕ
name_of_block_kind BlockKind.Block = codes "block"
name_of_block_kind BlockKind.Value = codes "value"
name_of_block_kind BlockKind.Loop = codes "loop"
name_of_block_kind BlockKind.Sequence = codes "sequence"
name_of_block_kind BlockKind.Catch = codes "catch"

abbrev pub number_of_terminal : Terminal → ℕ
number_of_terminal Terminal.Unreachable = 1
number_of_terminal Terminal.Throw = 2
number_of_terminal Terminal.Return = 3
number_of_terminal Terminal.Goto = 4
number_of_terminal Terminal.If = 5
number_of_terminal Terminal.Branch = 6
number_of_terminal Terminal.Switch = 7
number_of_terminal Terminal.DoWhile = 8
number_of_terminal Terminal.While = 9
number_of_terminal Terminal.For = 10
number_of_terminal Terminal.ForOf = 11
number_of_terminal Terminal.ForIn = 12
number_of_terminal Terminal.Logical = 13
number_of_terminal Terminal.Ternary = 14
number_of_terminal Terminal.Optional = 15
number_of_terminal Terminal.Label = 16
number_of_terminal Terminal.Sequence = 17
number_of_terminal Terminal.MaybeThrow = 18
number_of_terminal Terminal.Try = 19
number_of_terminal Terminal.Scope = 20
number_of_terminal Terminal.PrunedScope = 21

abbrev pub name_of_terminal : Terminal → List ℕ
name_of_terminal Terminal.Unreachable = codes "Unreachable"
name_of_terminal Terminal.Throw = codes "Throw"
name_of_terminal Terminal.Return = codes "Return"
name_of_terminal Terminal.Goto = codes "Goto"
name_of_terminal Terminal.If = codes "If"
name_of_terminal Terminal.Branch = codes "Branch"
name_of_terminal Terminal.Switch = codes "Switch"
name_of_terminal Terminal.DoWhile = codes "DoWhile"
name_of_terminal Terminal.While = codes "While"
name_of_terminal Terminal.For = codes "For"
name_of_terminal Terminal.ForOf = codes "ForOf"
name_of_terminal Terminal.ForIn = codes "ForIn"
name_of_terminal Terminal.Logical = codes "Logical"
name_of_terminal Terminal.Ternary = codes "Ternary"
name_of_terminal Terminal.Optional = codes "Optional"
name_of_terminal Terminal.Label = codes "Label"
name_of_terminal Terminal.Sequence = codes "Sequence"
name_of_terminal Terminal.MaybeThrow = codes "MaybeThrow"
name_of_terminal Terminal.Try = codes "Try"
name_of_terminal Terminal.Scope = codes "Scope"
name_of_terminal Terminal.PrunedScope = codes "PrunedScope"

abbrev pub number_of_return_variant : ReturnVariant → ℕ
number_of_return_variant ReturnVariant.Void = 0
number_of_return_variant ReturnVariant.Implicit = 1
number_of_return_variant ReturnVariant.Explicit = 2

abbrev pub name_of_return_variant : ReturnVariant → List ℕ
name_of_return_variant ReturnVariant.Void = codes "Void"
name_of_return_variant ReturnVariant.Implicit = codes "Implicit"
name_of_return_variant ReturnVariant.Explicit = codes "Explicit"
