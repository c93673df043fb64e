use Rattle.std.proofs.Common.{rules}
use Rattle.reg_http.proofs.tally.TallyRead.read.Goals as goal

pub returns-else-is_err-clause-failed : goal.returns-else-is_err-clause-failed
returns-else-is_err-clause-failed g c = search rules
