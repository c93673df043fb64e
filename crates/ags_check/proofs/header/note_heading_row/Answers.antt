use Rattle.std.proofs.Common.{◌∙◌}
use Rattle.ags_check.proofs.header.note_heading_row.Goals as goal

pub note_header_headings-requires : goal.note_header_headings-requires
note_header_headings-requires c = c.in_ok-row.ensures ∙ c.as_slice.ensures

pub returns : goal.returns
returns c = c.note_header_headings.ensures
