use Rattle.std.proofs.Common.{refl}
use Rattle.ags_rows.proofs.Lemmas.{adds_found, adds_unmet}
use Rattle.ags_check.proofs.header.groups.note_lacking_parent.Goals as goal

pub returns-in_ok-note : goal.returns-in_ok-note
returns-in_ok-note c = adds_found (c.lacks_parent_group.ensures.0 c.if-lacks_parent_group.true) (cc (c.as_slice.ensures, c.in_ok-note.ensures.noted))

pub returns-else-lacks_parent_group : goal.returns-else-lacks_parent_group
returns-else-lacks_parent_group c = adds_unmet c.if-lacks_parent_group.false c.lacks_parent_group.ensures.1 refl
