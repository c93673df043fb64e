use Rattle.reg_desk.proofs.Walks.{drawn_whole as law}
use Rattle.reg_desk.proofs.laws.drawn_is_whole.Goals as goal

pub returns : goal.returns
returns c = law
