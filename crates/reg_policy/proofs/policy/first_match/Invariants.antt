use Rattle.std.proofs.Common.{◌≡◌, drop}
use Rattle.reg_policy.specs.Decision.{decision_of}
use Rattle.reg_policy.proofs.policy.first_match.Given as goal

abbrev pub invariant-loop-rule : goal.invariant-loop-rule
invariant-loop-rule l = decision_of l.rules l.subject ≡ decision_of (drop l.rule-index l.rules) l.subject
