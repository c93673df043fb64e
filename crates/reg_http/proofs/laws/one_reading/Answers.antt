use Rattle.reg_http.proofs.ReadingLaws.{one_reading}
use Rattle.reg_http.proofs.laws.one_reading.Goals as goal

pub returns : goal.returns
returns c = one_reading
