use Rattle.std.proofs.Common.{◌≡◌, ℕ, ◌<◌}
use Rattle.refusals.specs.Form.{RoleFormed}
use Rattle.store_form.proofs.Parts.{role_before}
use Rattle.store_form.proofs.instructions.element_formed.Given as goal

-- the places so far, and the role of the last of them
abbrev pub invariant-loop-place : goal.invariant-loop-place
invariant-loop-place l = (l.before ≡ role_before l.places l.place-index) × ((k : ℕ) → k < l.place-index → RoleFormed l.row.detail l.places k)
