-- How kinds and their numbers go together.
use Rattle.std.specs.Prelude.{◌≡◌, ◌⊎◌, ℕ, ◌<◌, ◌≤◌, MatchResult, Result}
use Rattle.kinds.specs.declared.UnknownNumber.{UnknownNumber}

-- What a number is read as: the kind whose number it is, if it lies from the first to the last, or else an error that carries it.
abbrev pub FromNumber : {K : Type 0} → (K → ℕ) → ℕ → ℕ → ℕ → Result K UnknownNumber → Type 0
FromNumber number_of first last n r = MatchResult r (λ k. (number_of k ≡ n) × (first ≤ n) × (n ≤ last)) (λ e. (e.0 ≡ n) × ((n < first) ⊎ (last < n)))
