use Rattle.ags_check.proofs.CleanContents.{clean_contents}
use Rattle.ags_check.proofs.laws.clean_contents.Goals as goal

pub returns : goal.returns
returns c = clean_contents
