use Rattle.ags_check.proofs.CleanContents.{clear_rows}
use Rattle.ags_check.proofs.laws.clear_rows.Goals as goal

pub returns : goal.returns
returns c = clear_rows
