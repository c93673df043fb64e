use Rattle.std.proofs.Common.{◌≡◌, ◌++◌, take, map, All}
use Rattle.ags_rows.specs.Contents.{group_contents, fields_of}
use Rattle.ags_links.specs.DataRows.{row_in}
use Rattle.ags_links.specs.Placing.{row_of, IsPlaced}
use Rattle.ags_links.proofs.placed.place_group.Given as goal

abbrev pub invariant-loop-row : goal.invariant-loop-row
invariant-loop-row l = record {
  placed : All (IsPlaced l.groups) l.rows.items;
  rows : map row_of l.rows.items ≡ map row_of l.fn.rows.items ++ map (row_in (group_contents l.group)) (map fields_of (take l.row-index l.row-items));
}
