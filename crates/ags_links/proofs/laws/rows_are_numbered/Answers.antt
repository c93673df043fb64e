use Rattle.ags_links.proofs.Numbering.{rows_are_numbered}
use Rattle.ags_links.proofs.laws.rows_are_numbered.Goals as goal

pub returns : goal.returns
returns c = rows_are_numbered
