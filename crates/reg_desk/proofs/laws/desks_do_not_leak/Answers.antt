use Rattle.reg_desk.proofs.TwoDesks.{no_leak as law}
use Rattle.reg_desk.proofs.laws.desks_do_not_leak.Goals as goal

pub returns : goal.returns
returns c = law
