use Rattle.reg_desk.proofs.Running.{steps_run}
use Rattle.reg_desk.proofs.laws.steps_are_a_run.Goals as goal

pub returns : goal.returns
returns g c = steps_run g.K.Keep g.met.K.Keep.settled g.met.K.Keep.unbroken
