use Rattle.std.proofs.Common.{◌∙◌, List, ap, subst, sym}
use Rattle.reg_policy.specs.Decision.{decision_of}
use Rattle.reg_policy.specs.Rules.{IsRisingFrom}
use Rattle.reg_policy.specs.declared.rule.Rule.{Rule}
use Rattle.reg_policy.proofs.Chosen.{none_is_zero, zero_is_none}
use Rattle.reg_policy.proofs.policy.Policy.decide.Goals as goal

pub returns-clause-decides : goal.returns-clause-decides
returns-clause-decides c =
    let first = rw c.deref.ensures.value at c.first_match.ensures in
    first ∙ ap (λ (rules : List Rule). decision_of rules c.args.subject.now) c.self.view_is

pub returns-clause-no_match : goal.returns-clause-no_match
returns-clause-no_match c =
    let rules = c.args.self.now in
    let rising : IsRisingFrom 0 rules = subst (IsRisingFrom 0) c.self.view_is c.self.invariant in
    let is = returns-clause-decides c in (
      λ e. zero_is_none 0 rules c.args.subject.now rising (sym is ∙ e),
      λ none. is ∙ none_is_zero rules c.args.subject.now none,
    )
