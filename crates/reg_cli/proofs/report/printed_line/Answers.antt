use Rattle.std.proofs.Common.{refl}
use Rattle.reg_cli.proofs.Printed.{listed_with}
use Rattle.reg_cli.proofs.report.printed_line.Goals as goal

pub returns : goal.returns
returns c = listed_with _ _ _ c.dated_line.result c.text-day.ensures.written refl c.dated_line.ensures
