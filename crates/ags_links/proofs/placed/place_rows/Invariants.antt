use Rattle.std.proofs.Common.{◌≡◌, take, map, All}
use Rattle.ags_rows.specs.Contents.{contents_of}
use Rattle.ags_links.specs.DataRows.{data_rows}
use Rattle.ags_links.specs.Placing.{row_of, IsPlaced}
use Rattle.ags_links.proofs.placed.place_rows.Given as goal

abbrev pub invariant-loop-place : goal.invariant-loop-place
invariant-loop-place l = record {
  placed : All (IsPlaced l.groups) l.rows.items;
  rows : map row_of l.rows.items ≡ data_rows (contents_of (take l.place l.groups));
}
