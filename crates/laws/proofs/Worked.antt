-- The worked allowances, by computation.
use Rattle.std.proofs.Common.{ℕ, zero, suc, ◌^◌, ◌<◌, false, eqb, List, [], ◌∷◌, length, sym, refl, subst, inl, inr, arith}
use Rattle.std.proofs.lemmas.Bool.{or_cases, both_ways, eqb-true}
use Rattle.rules.specs.Lists.{Lists}
use Rattle.rules.specs.Views.{InstructionV, function_rows, function_at}
use Rattle.rules.specs.Names.{numeral}
use Rattle.rules.specs.Outline.{depth}
use Rattle.rules.specs.Cases.{Tile}
use Rattle.rules.specs.WorkedRun.{passed_on}
use Rattle.rules.proofs.Membership.{lists_none, lists_head}
use Rattle.laws.specs.Staying.{identifier_at}
use Rattle.laws.specs.Sufficing.{Formed, WalkFormed}
use Rattle.laws.specs.Worked.{WorkedAllowances}

each_row : (i : InstructionV) (is : List InstructionV) → Formed i → ((j : InstructionV) → Lists is j → Formed j) → (j : InstructionV) → Lists (i ∷ is) j → Formed j
each_row i is p q j l = elim (lists_head l) [ inl e ↦ subst Formed (sym e) p | inr k ↦ q j k ]

rows_formed : (i : InstructionV) → Lists (function_rows (function_at passed_on 0)) i → Formed i
rows_formed =
    each_row _ _ (record { tag = λ e. omega arith; roles = λ e. omega arith; load = λ e. refl })
    (each_row _ _ (record { tag = λ e. omega arith; roles = λ e. omega arith; load = λ e. absurd (both_ways false refl e) })
    (each_row _ _ (record { tag = λ e. omega arith; roles = λ e. omega arith; load = λ e. absurd (both_ways false refl e) })
    (each_row _ _ (record { tag = λ e. omega arith; roles = λ e. absurd (both_ways false refl e); load = λ e. absurd (both_ways false refl e) })
    (λ j l. lists_none l))))

walk_formed : WalkFormed depth passed_on 0
walk_formed g q = elim (or_cases (eqb g 0) false q) [
  | inl e ↦ subst (λ z. (i : InstructionV) → Lists (function_rows (function_at passed_on z)) i → Formed i) (sym (eqb-true g 0 e)) rows_formed
  | inr e ↦ absurd (both_ways false refl e)
]

declared : (x : ℕ) → x < length passed_on.identifiers → (identifier_at passed_on x).declaration < 2 ^ 32
declared zero l = omega arith
declared (suc zero) l = omega arith
declared (suc (suc zero)) l = omega arith
declared (suc (suc (suc zero))) l = omega arith
declared (suc (suc (suc (suc zero)))) l = omega arith
declared (suc (suc (suc (suc (suc zero))))) l = omega arith
declared (suc (suc (suc (suc (suc (suc x)))))) l = absurd (omega arith)

pub worked_allowances : WorkedAllowances
unfolding numeral
worked_allowances = record {
  counts = refl;
  identifiers = refl;
  identifiers_taken = refl;
  instructions = refl;
  instructions_taken = refl;
  numbers_allowance = refl;
  numbers_taken = refl;
  places_allowance = refl;
  places_taken = refl;
  text = refl;
  text_taken = refl;
  formed = walk_formed;
  limits = record {
    identifiers = omega arith;
    instructions = omega arith;
    functions = omega arith;
    counter = omega arith;
    mark = omega arith;
    declarations = declared;
    borne = record { names = Tile ∷ []; few = omega arith; all = λ n h. h };
  };
}
