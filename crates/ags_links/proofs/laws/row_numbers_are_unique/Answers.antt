use Rattle.ags_links.proofs.Numbering.{row_numbers_are_unique}
use Rattle.ags_links.proofs.laws.row_numbers_are_unique.Goals as goal

pub returns : goal.returns
returns c = row_numbers_are_unique
