use Rattle.reg_policy.proofs.Chosen.{decided}
use Rattle.reg_policy.proofs.laws.first_match_decides.Goals as goal

pub returns : goal.returns
returns c = decided c.args.policy.now
