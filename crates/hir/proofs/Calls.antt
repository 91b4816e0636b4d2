-- What a call shows of a store from the tables that it leaves; and what was seen before a call is seen after it.
use Rattle.std.proofs.Common.{◌≡◌, ℕ, ◌<◌, List, sym, ap, ◌∙◌, subst}
use Rattle.std.specs.List.{AllByRecursion}
use Rattle.rules.specs.Views.{Hir}
use Rattle.hir.specs.declared.rows.Store.{Store}
use Rattle.hir.specs.declared.rows.Counts.{Counts}
use Rattle.hir.specs.declared.rows.Name.{Name}
use Rattle.hir.specs.Tables.{Tables, tables, Held}
use Rattle.hir.specs.View.{rows, view, spelt, instruction_at, instructions_at}
use Rattle.hir.specs.WellFormed.{NameFits, WellFormed}
use Rattle.hir.specs.Frame.{Kept, Becomes}
use Rattle.hir.proofs.Same.{spelt_same, instruction_at_same, instructions_at_same}
use Rattle.hir.proofs.Growth.{sizes_are, sound_rows}
use Rattle.hir.proofs.Frames.{kept_stays}

pub becomes : (before after : Store) (t : Tables) (h : Hir) → tables after ≡ t → Held after before → view t ≡ h → WellFormed t → Kept (tables before) t → Becomes before after t h
becomes before after t h e held seen well kept = record {
  writes = e;
  seen = ap view e ∙ seen;
  well = subst WellFormed (sym e) well;
  kept = subst (Kept (tables before)) (sym e) kept;
  held = held;
}

module _ (t : Tables) (w : WellFormed t) (u : Tables) (k : Kept t u) where
  pub name_carried : (n : Name) → NameFits t.counts n → spelt (view u).text n ≡ spelt (view t).text n
  name_carried n h = spelt_same (rows t) (rows u) (kept_stays t u k) n (subst (λ c. NameFits c n) (sym (sizes_are t w.counted)) h)

  pub instruction_carried : (n : ℕ) → n < t.counts.instructions → instruction_at (rows u) n ≡ instruction_at (rows t) n
  instruction_carried n h = instruction_at_same (rows t) (rows u) (kept_stays t u k) (sound_rows t w) n (subst (λ (c : Counts). n < c.instructions) (sym (sizes_are t w.counted)) h)

  pub instructions_carried : (ns : List ℕ) → AllByRecursion (λ n. n < t.counts.instructions) ns → instructions_at (rows u) ns ≡ instructions_at (rows t) ns
  instructions_carried ns a = instructions_at_same (rows t) (rows u) (kept_stays t u k) (sound_rows t w) ns (subst (λ (c : Counts). AllByRecursion (λ n. n < c.instructions) ns) (sym (sizes_are t w.counted)) a)
