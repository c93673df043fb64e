use Rattle.std.proofs.Common.{◌≡◌, drop}
use Rattle.reg_policy.specs.Callers.{caller_of}
use Rattle.reg_policy.proofs.callers.Callers.find.Given as goal

abbrev pub invariant-loop-credential : goal.invariant-loop-credential
invariant-loop-credential l = caller_of l.token l.credential-items ≡ caller_of l.token (drop l.credential-index l.credential-items)
