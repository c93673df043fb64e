use Rattle.std.proofs.Common.{◌∙◌}
use Rattle.reg_policy.proofs.Items.{known_in}
use Rattle.reg_policy.proofs.document.is_known_key.Goals as goal

pub returns : goal.returns
returns c = c.contains.ensures.value ∙ known_in c.args.table_keys.now c.args.key.now
