use Rattle.std.proofs.Common.{◌≡◌, map, take, flat_map}
use Rattle.ags_rows.specs.Contents.{group_contents}
use Rattle.ags_dict.specs.Entries.{group_entries_in, heading_entries_in, same_group, same_heading, with_new}
use Rattle.ags_dict.proofs.extending.take_contents.Given as goal

abbrev pub invariant-loop-group : goal.invariant-loop-group
invariant-loop-group l = record {
  groups : l.taken.groups ≡ with_new same_group l.fn.dictionary.groups (flat_map group_entries_in (take l.group-index (map group_contents l.found)));
  headings : l.taken.headings ≡ with_new same_heading l.fn.dictionary.headings (flat_map heading_entries_in (take l.group-index (map group_contents l.found)));
}
