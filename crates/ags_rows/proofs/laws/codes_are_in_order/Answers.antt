use Rattle.ags_rows.proofs.Files.{codes_sorted, code_listed}
use Rattle.ags_rows.proofs.laws.codes_are_in_order.Goals as goal

pub returns : goal.returns
returns c = (codes_sorted, code_listed)
