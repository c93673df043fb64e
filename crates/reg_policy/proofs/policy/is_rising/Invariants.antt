use Rattle.std.proofs.Common.{◌↔◌, drop}
use Rattle.reg_policy.specs.Rules.{IsRisingFrom}
use Rattle.reg_policy.proofs.policy.is_rising.Given as goal

abbrev pub invariant-loop-rule : goal.invariant-loop-rule
invariant-loop-rule l = IsRisingFrom l.last (drop l.rule-index l.rules) ↔ IsRisingFrom 0 l.rules
