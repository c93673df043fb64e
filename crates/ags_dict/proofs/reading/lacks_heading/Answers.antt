use Rattle.std.proofs.Common.{sym, ◌∙◌}
use Rattle.ags_rows.specs.Contents.{group_contents}
use Rattle.ags_dict.specs.Entries.{is_incomplete}
use Rattle.ags_dict.proofs.Found.{seen_more, seen_at, seen_all}
use Rattle.ags_dict.proofs.reading.lacks_heading.Goals as goal

pub loop-group-preserved : goal.loop-group-preserved
loop-group-preserved c =
    seen_more group_contents is_incomplete c.args.groups.now c.loop-group.group-index c.group-item.result c.loop-group-test.true c.group-item.is (sym c.is_incomplete.ensures ∙ c.if-is_incomplete.false) c.loop-group.invariant

pub returns-then-is_incomplete : goal.returns-then-is_incomplete
returns-then-is_incomplete c =
    sym (seen_at group_contents is_incomplete c.args.groups.now c.loop-group.group-index c.group-item.result c.loop-group-test.true c.group-item.is (sym c.is_incomplete.ensures ∙ c.if-is_incomplete.true))

pub returns : goal.returns
returns c = sym (seen_all group_contents is_incomplete c.args.groups.now c.loop-group.group-index c.loop-group-test.false c.loop-group.invariant)
