use Rattle.reg_desk.proofs.Repeats.{repeat_received as law}
use Rattle.reg_desk.proofs.laws.repeat_is_received.Goals as goal

pub returns : goal.returns
returns c = law
