use Rattle.reg_http.proofs.ReplyLaws.{one_rendering}
use Rattle.reg_http.proofs.laws.one_rendering.Goals as goal

pub returns : goal.returns
returns c = one_rendering
