use Rattle.ags_rows.proofs.RowTexts.{texts_within}
use Rattle.ags_rows.proofs.laws.rows_within_bytes.Goals as goal

pub returns : goal.returns
returns c = texts_within
