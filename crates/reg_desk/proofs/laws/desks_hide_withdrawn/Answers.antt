use Rattle.reg_desk.proofs.Unseen.{desks_hide as law}
use Rattle.reg_desk.proofs.laws.desks_hide_withdrawn.Goals as goal

pub returns : goal.returns
returns c = law
