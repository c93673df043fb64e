use Rattle.std.proofs.Common.{◌≡◌, map, take, flat_map}
use Rattle.ags_rows.specs.Contents.{fields_of}
use Rattle.ags_dict.specs.Entries.{group_entries, heading_entries, same_group, same_heading, with_new}
use Rattle.ags_dict.proofs.extending.take_rows.Given as goal

abbrev pub invariant-loop-row : goal.invariant-loop-row
invariant-loop-row l = record {
  groups : l.groups ≡ with_new same_group l.fn.dictionary.groups (flat_map (group_entries l.group.headings) (take l.row-index (map fields_of l.group.rows)));
  headings : l.headings ≡ with_new same_heading l.fn.dictionary.headings (flat_map (heading_entries l.group.headings) (take l.row-index (map fields_of l.group.rows)));
}
