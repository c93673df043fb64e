use Rattle.std.proofs.Common.{rules}
use Rattle.reg_http.proofs.tally.TallyWrite.write.Goals as goal

pub returns-else-refused-clause-failed : goal.returns-else-refused-clause-failed
returns-else-refused-clause-failed g c = search rules
