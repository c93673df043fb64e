use Rattle.std.proofs.Common.{◌∙◌, sym}
use Rattle.ags_check.proofs.rows.note_all_entries.Goals as goal

pub note_row_groups-requires-clause-listed : goal.note_row_groups-requires-clause-listed
note_row_groups-requires-clause-listed c = c.in_ok-listed.ensures ∙ sym c.requires.contents

pub returns : goal.returns
returns c = c.note_row_groups.ensures
