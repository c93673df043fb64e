use Rattle.std.proofs.Common.{length, map, ap, arith}
use Rattle.std.proofs.lemmas.List.{length-map}
use Rattle.ags_rows.specs.Contents.{fields_of}
use Rattle.ags_dict.specs.Entries.{group_entries, heading_entries, same_group, same_heading}
use Rattle.ags_dict.proofs.FirstOfEach.{with_new_none, with_new_more, with_new_all}
use Rattle.ags_dict.proofs.extending.take_rows.Goals as goal

pub loop-row-preserved : goal.loop-row-preserved
loop-row-preserved c =
    let row = c.row-item.result in
    let rows = c.args.group.now.rows in
    let is = rw c.as_slice-row-items.ensures at c.row-item.is in
    let below = rw c.as_slice-row-items.ensures at c.loop-row-test.true in
    record {
      groups = with_new_more same_group (group_entries c.args.group.now.headings) fields_of rows c.loop-row.row-index row _ _ _ below is c.loop-row.invariant.groups
          (rw (c.as_slice-names.ensures, c.as_slice-cells.ensures) at c.in_ok-groups.ensures);
      headings = with_new_more same_heading (heading_entries c.args.group.now.headings) fields_of rows c.loop-row.row-index row _ _ _ below is c.loop-row.invariant.headings
          (rw (c.as_slice-names.ensures, c.as_slice-cells.ensures) at c.in_ok-headings.ensures);
    }

pub loop-row-init : goal.loop-row-init
loop-row-init c = record {
  groups = with_new_none same_group c.args.dictionary.groups _ c.into_parts-groups.ensures.groups;
  headings = with_new_none same_heading c.args.dictionary.headings _ c.into_parts-groups.ensures.headings;
}

pub returns-clause-groups : goal.returns-clause-groups
returns-clause-groups c =
    let rows = c.args.group.now.rows in
    with_new_all same_group (group_entries c.args.group.now.headings) (map fields_of rows) c.loop-row.row-index c.args.dictionary.groups c.loop-row.groups
    (omega (arith, length-map rows fields_of, ap length c.as_slice-row-items.ensures, c.loop-row-test.false)) c.loop-row.invariant.groups

pub returns-clause-headings : goal.returns-clause-headings
returns-clause-headings c =
    let rows = c.args.group.now.rows in
    with_new_all same_heading (heading_entries c.args.group.now.headings) (map fields_of rows) c.loop-row.row-index c.args.dictionary.headings c.loop-row.headings
    (omega (arith, length-map rows fields_of, ap length c.as_slice-row-items.ensures, c.loop-row-test.false)) c.loop-row.invariant.headings
