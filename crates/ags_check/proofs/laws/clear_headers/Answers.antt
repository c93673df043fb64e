use Rattle.ags_check.proofs.CleanContents.{clear_headers}
use Rattle.ags_check.proofs.laws.clear_headers.Goals as goal

pub returns : goal.returns
returns c = clear_headers
