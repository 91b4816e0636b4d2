-- Kinds of instructions, by number: 0 for a phi, else the position of the variant in `InstructionValue`, counted from 1.
use Rattle.std.specs.Prelude.{ℕ, Bool, true, false, cond, List, [], ◌∷◌, nat_le}

-- a phi
abbrev pub phi_kind : ℕ
phi_kind = 0

-- Destructure
abbrev pub destructure_kind : ℕ
destructure_kind = 7

-- CallExpression
abbrev pub call_expression_kind : ℕ
call_expression_kind = 12

-- JsxExpression
abbrev pub jsx_kind : ℕ
jsx_kind = 16

-- ObjectMethod, which has an inner function but is not walked
abbrev pub object_method_kind : ℕ
object_method_kind = 18

-- LoadGlobal
abbrev pub load_global_kind : ℕ
load_global_kind = 29

-- StoreGlobal
abbrev pub store_global_kind : ℕ
store_global_kind = 30

-- FunctionExpression, whose inner function is walked
abbrev pub function_expression_kind : ℕ
function_expression_kind = 31

-- does the number lie in one of these ranges, both ends included?
abbrev pub ranged : ℕ → List (ℕ × ℕ) → Bool
ranged v [] = false
ranged v (r ∷ rs) = cond (nat_le r.0 v) (cond (nat_le v r.1) true (ranged v rs)) (ranged v rs)

-- the kinds whose instructions act: what they do is seen outside, so no elimination drops them
abbrev pub acts : ℕ → Bool
acts k = ranged k ((2, 2) ∷ (4, 4) ∷ (6, 6) ∷ (11, 13) ∷ (23, 23) ∷ (25, 26) ∷ (28, 28) ∷ (30, 30) ∷ (32, 32) ∷ (34, 37) ∷ (40, 42) ∷ [])
