use Rattle.reg_desk.proofs.Lasting.{withdrawn_recorded as law}
use Rattle.reg_desk.proofs.laws.withdrawn_is_recorded.Goals as goal

pub returns : goal.returns
returns c = law
