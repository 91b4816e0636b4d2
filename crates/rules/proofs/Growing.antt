-- What outlining does to a store before it appends a function: the rows stay, identifiers are only added.
use Rattle.std.proofs.Common.{◌≡◌, ℕ, suc, ◌≤◌, true, false, [], ◌∷◌, length, get_or, refl, ◌∙◌, arith, length-append}
use Rattle.rules.specs.Lists.{changed}
use Rattle.rules.specs.Views.{write, Bytes, absent, named, promoted, Hir, with_identifiers, NameV}
use Rattle.rules.specs.Names.{same_bytes, temporary}
use Rattle.rules.specs.Props.{write_changed, promote, no_identifier, fresh}
use Rattle.rules.proofs.Positions.{length_changed}

-- the store keeps its rows, and loses no identifier
pub record Grown (h h' : Hir) : Type 0 where
  pub functions : h'.functions ≡ h.functions
  pub bears : h'.bears ≡ h.bears
  pub rows : h'.used_rows ≡ h.used_rows
  pub identifiers : length h.identifiers ≤ length h'.identifiers

pub grown_refl : (h : Hir) → Grown h h
grown_refl h = record { functions = refl; bears = refl; rows = refl; identifiers = omega arith }

pub grown_then : {a b c : Hir} → Grown a b → Grown b c → Grown a c
grown_then p q =
    let i = p.identifiers in
    let j = q.identifiers in
    record { functions = q.functions ∙ p.functions; bears = q.bears ∙ p.bears; rows = q.rows ∙ p.rows; identifiers = omega arith }

pub promote_grown : (h : Hir) (x : ℕ) → Grown h (promote h x)
-- promoting, writing, taking an identifier
promote_grown h x = elim (get_or h.identifiers x no_identifier).name as (λ n. Grown h (elim n [ absent ↦ write (with_identifiers h (changed (λ j. record { declaration = j.declaration; name = promoted (temporary j.declaration) }) x h.identifiers)) (temporary (get_or h.identifiers x no_identifier).declaration) | named m ↦ h | promoted m ↦ h ])) [
  | absent ↦
      let l = length_changed (λ j. record { declaration = j.declaration; name = promoted (temporary j.declaration) }) x h.identifiers in
      record { functions = refl; bears = refl; rows = refl; identifiers = omega arith }
  | named m ↦ grown_refl h
  | promoted m ↦ grown_refl h
]

pub write_changed_grown : (h : Hir) (old new : Bytes) → Grown h (write_changed h old new)
write_changed_grown h old new = elim (same_bytes old new) as (λ b. Grown h (elim b [ true ↦ h | false ↦ write h new ])) [ true ↦ grown_refl h | false ↦ record { functions = refl; bears = refl; rows = refl; identifiers = omega arith } ]

pub fresh_grown : (h : Hir) (n : NameV) → Grown h (fresh h n)
fresh_grown h n =
    let l = length-append h.identifiers (record { declaration = length h.identifiers; name = n } ∷ []) in
    record { functions = refl; bears = refl; rows = refl; identifiers = omega arith }

pub fresh_length : (h : Hir) (n : NameV) → length (fresh h n).identifiers ≡ suc (length h.identifiers)
fresh_length h n =
    let l = length-append h.identifiers (record { declaration = length h.identifiers; name = n } ∷ []) in
    omega arith
