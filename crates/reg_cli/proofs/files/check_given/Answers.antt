use Rattle.std.proofs.Common.{rules}
use Rattle.reg_cli.proofs.files.check_given.Goals as goal

pub returns : goal.returns
returns g c = search rules
