-- What is added to a list of numbers.
use Rattle.std.specs.Prelude.{ℕ, List, Contains, ◌⊎◌}

-- exactly these numbers are added
pub record AddsRows (old new : List ℕ) (IsOne : ℕ → Type 0) : Type 0 where
  pub only : (n : ℕ) → Contains new n → Contains old n ⊎ IsOne n
  pub kept : (n : ℕ) → Contains old n → Contains new n
  pub all : (n : ℕ) → IsOne n → Contains new n
