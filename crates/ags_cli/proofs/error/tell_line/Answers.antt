use Rattle.ags_cli.proofs.Telling.{ended_tells}
use Rattle.ags_cli.proofs.error.tell_line.Goals as goal

pub returns : goal.returns
returns g c = ended_tells _ _ _ _ _ _ _ _ c.write_line.ensures.bytes c.write_line.ensures.noted c.ended.ensures
