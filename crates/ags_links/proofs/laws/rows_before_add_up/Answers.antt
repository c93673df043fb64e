use Rattle.ags_links.proofs.Numbering.{rows_before_add_up}
use Rattle.ags_links.proofs.laws.rows_before_add_up.Goals as goal

pub returns : goal.returns
returns c = rows_before_add_up
