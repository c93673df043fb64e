use Rattle.std.proofs.Common.{◌≡◌, ◌+◌, ◌<◌, ◌∷◌, [], ℕ, pos, get_or}
use Rattle.sqlite.specs.declared.types.Value.TheVariants.{Int}
use Rattle.reg_tables.proofs.open.examine.count_numbers.Given as goal

abbrev pub invariant-loop-at : goal.invariant-loop-at
invariant-loop-at l = (k : ℕ) → k < l.at → get_or l.rows k [] ≡ Int (pos (1 + k)) ∷ []
