use Rattle.std.proofs.Common.{◌∙◌, ap}
use Rattle.ags_check.proofs.Naming.{texts}
use Rattle.ags_check.proofs.header.headings.note_absent_keys.Goals as goal

pub returns : goal.returns
returns c = rw (ap texts c.as_slice.ensures.value ∙ c.in_ok-keys.ensures) at c.note_absent.ensures
