use Rattle.reg_policy.proofs.DayTexts.{Writes-utf8}
use Rattle.reg_policy.proofs.Days.{day_of-Writes}
use Rattle.reg_policy.proofs.day.Day.text.Goals as goal

pub returns-clause-reads_back : goal.returns-clause-reads_back
returns-clause-reads_back c = (day_of-Writes c.written.result c.args.self).1 (c.written.ensures.written, c.written.ensures.in_range)

pub returns-clause-utf8 : goal.returns-clause-utf8
returns-clause-utf8 c = Writes-utf8 c.written.result c.args.self c.written.ensures.written
