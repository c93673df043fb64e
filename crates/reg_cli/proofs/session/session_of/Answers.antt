use Rattle.std.proofs.Common.{rules}
use Rattle.reg_cli.proofs.session.session_of.Goals as goal

pub returns-clause-caller : goal.returns-clause-caller
returns-clause-caller c = search rules
