use Rattle.reg_policy.specs.Rules.{IsRule, rule_key, rule_keys}
use Rattle.reg_policy.proofs.Once.{one_list, rule_once}
use Rattle.reg_policy.proofs.laws.one_policy.Goals as goal

pub returns : goal.returns
returns c = one_list IsRule rule_once rule_key rule_keys c.args.text.now
