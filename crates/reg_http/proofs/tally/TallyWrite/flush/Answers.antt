use Rattle.std.proofs.Common.{refl}
use Rattle.reg_http.proofs.tally.TallyWrite.flush.Goals as goal

pub returns-clause-failed : goal.returns-clause-failed
returns-clause-failed g c = refl
