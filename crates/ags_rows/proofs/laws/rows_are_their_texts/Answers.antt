use Rattle.ags_rows.proofs.RowTexts.{texts_of_rows}
use Rattle.ags_rows.proofs.laws.rows_are_their_texts.Goals as goal

pub returns : goal.returns
returns c = texts_of_rows
