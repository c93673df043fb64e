-- The numbers that a SELECT of all deposits shows.
use Rattle.std.proofs.Common.{ℕ, zero, suc, ◌+◌, pos, List, [], ◌∷◌}
use Rattle.sqlite.specs.declared.types.Value.TheVariants.{Int}
use Rattle.sqlite.specs.Order.{Row}

-- The rows of so many numbers, from m on.
abbrev pub number_rows : ℕ → ℕ → List Row
number_rows m zero = []
number_rows m (suc count) = (Int (pos m) ∷ []) ∷ number_rows (m + 1) count
