use Rattle.ags_check.proofs.header.note_header_groups.Goals as goal

pub returns : goal.returns
returns c = rw c.in_ok-file.ensures at c.note_file.ensures
