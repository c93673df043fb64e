use Rattle.std.proofs.Common.{rules}
use Rattle.ags_text.proofs.cell.Cell.is_borrowed.Goals as goal

pub returns-in-Owned : goal.returns-in-Owned
returns-in-Owned c = search rules
