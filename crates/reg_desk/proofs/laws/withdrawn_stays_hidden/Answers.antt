use Rattle.reg_desk.proofs.Unseen.{withdrawn_hidden as law}
use Rattle.reg_desk.proofs.laws.withdrawn_stays_hidden.Goals as goal

pub returns : goal.returns
returns c = law
