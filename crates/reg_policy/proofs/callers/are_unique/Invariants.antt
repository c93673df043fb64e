use Rattle.std.proofs.Common.{◌≡◌, ◌≤◌, ℕ, List, length, drop, true}
use Rattle.std.specs.BTreeSet.{keys}
use Rattle.reg_policy.specs.Callers.{are_unique, has_token}
use Rattle.reg_policy.proofs.Tokens.{has_key}
use Rattle.reg_policy.proofs.callers.are_unique.Given as goal

abbrev pub invariant-loop-i : goal.invariant-loop-i
invariant-loop-i l = (l.i ≤ length l.credentials) × ((token : List ℕ) → has_key token (keys l.later) ≡ has_token token (drop l.i l.credentials))
    × (are_unique (drop l.i l.credentials) ≡ true)

abbrev pub decreases-loop-i : goal.decreases-loop-i
decreases-loop-i l = l.i
