use Rattle.reg_desk.proofs.Runs.{extract_again as law}
use Rattle.reg_desk.proofs.laws.extract_of_an_extract.Goals as goal

pub returns : goal.returns
returns c = law
