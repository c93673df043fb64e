use Rattle.std.proofs.Common.{◌≡◌, take, map, false}
use Rattle.std.specs.List.{list_any}
use Rattle.ags_rows.specs.Contents.{group_contents}
use Rattle.ags_dict.specs.Entries.{is_incomplete}
use Rattle.ags_dict.proofs.reading.lacks_heading.Given as goal

abbrev pub invariant-loop-group : goal.invariant-loop-group
invariant-loop-group l = list_any is_incomplete (map group_contents (take l.group-index l.groups)) ≡ false
