use Rattle.std.proofs.Common.{◌≡◌, ◌&&◌, not, drop}
use Rattle.std.specs.Str.{bytes_eq}
use Rattle.reg_policy.proofs.callers.is_same_token.Given as goal

abbrev pub invariant-loop-i : goal.invariant-loop-i
invariant-loop-i l = bytes_eq l.a l.b ≡ (not l.differ && bytes_eq (drop l.i l.a) (drop l.i l.b))
