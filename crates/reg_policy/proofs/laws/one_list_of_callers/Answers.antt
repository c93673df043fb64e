use Rattle.reg_policy.specs.Callers.{IsCaller, caller_key, caller_keys}
use Rattle.reg_policy.proofs.Once.{caller_once, one_list}
use Rattle.reg_policy.proofs.laws.one_list_of_callers.Goals as goal

pub returns : goal.returns
returns c = one_list IsCaller caller_once caller_key caller_keys c.args.text.now
