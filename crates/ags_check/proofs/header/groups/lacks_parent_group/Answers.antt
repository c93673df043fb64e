use Rattle.std.proofs.Common.{sym, ap, ◌∙◌}
use Rattle.ags_rows.specs.Contents.{group_contents, contents_of}
use Rattle.ags_dict.specs.Entries.{parent_of}
use Rattle.ags_check.proofs.Groups.{lacks_parent_group}
use Rattle.ags_check.proofs.header.groups.lacks_parent_group.Goals as goal

pub returns-in-Some : goal.returns-in-Some
returns-in-Some c =
    lacks_parent_group c.args.dictionary.now (contents_of c.args.file.now) (group_contents c.args.group.now) c.in-Some.parent.now c.has.result
    (ap (parent_of c.args.dictionary.now) (sym c.as_slice.ensures) ∙ sym c.in-Some.ensures) c.has.ensures
