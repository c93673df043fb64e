use Rattle.std.proofs.Common.{sym, ◌∙◌}
use Rattle.ags_rows.specs.Contents.{group_contents}
use Rattle.ags_dict.specs.Entries.{is_dict}
use Rattle.ags_dict.proofs.Found.{seen_more, seen_at, seen_all}
use Rattle.ags_dict.proofs.reading.has_dict.Goals as goal

pub loop-group-preserved : goal.loop-group-preserved
loop-group-preserved c =
    seen_more group_contents is_dict c.args.groups.now c.loop-group.group-index c.group-item.result c.loop-group-test.true c.group-item.is (sym c.is_dict.ensures ∙ c.if-is_dict.false) c.loop-group.invariant

pub returns-then-is_dict : goal.returns-then-is_dict
returns-then-is_dict c =
    sym (seen_at group_contents is_dict c.args.groups.now c.loop-group.group-index c.group-item.result c.loop-group-test.true c.group-item.is (sym c.is_dict.ensures ∙ c.if-is_dict.true))

pub returns : goal.returns
returns c = sym (seen_all group_contents is_dict c.args.groups.now c.loop-group.group-index c.loop-group-test.false c.loop-group.invariant)
