use Rattle.ags_check.proofs.OneFile.{one_clean_file}
use Rattle.ags_check.proofs.laws.one_clean_file.Goals as goal

pub returns : goal.returns
returns c = one_clean_file
