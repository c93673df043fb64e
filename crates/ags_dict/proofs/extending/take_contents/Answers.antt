use Rattle.ags_rows.specs.Contents.{group_contents}
use Rattle.ags_dict.specs.Entries.{group_entries_in, heading_entries_in, same_group, same_heading}
use Rattle.ags_dict.proofs.FirstOfEach.{with_new_more}
use Rattle.ags_dict.proofs.extending.take_contents.Goals as goal

pub loop-group-preserved : goal.loop-group-preserved
loop-group-preserved c =
    let group = c.group-item.result in
    record {
      groups = with_new_more same_group group_entries_in group_contents c.args.found.now c.loop-group.group-index group _ _ _ c.loop-group-test.true c.group-item.is c.loop-group.invariant.groups c.in_ok-taken.ensures.groups;
      headings = with_new_more same_heading heading_entries_in group_contents c.args.found.now c.loop-group.group-index group _ _ _ c.loop-group-test.true c.group-item.is c.loop-group.invariant.headings c.in_ok-taken.ensures.headings;
    }
