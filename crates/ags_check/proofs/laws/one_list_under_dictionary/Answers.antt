use Rattle.ags_check.proofs.Whole.{one_list}
use Rattle.ags_check.proofs.laws.one_list_under_dictionary.Goals as goal

pub returns : goal.returns
returns c = one_list
