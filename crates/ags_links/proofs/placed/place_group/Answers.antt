use Rattle.std.proofs.Common.{◌∙◌, map, sym}
use Rattle.std.proofs.lemmas.List.{map-append}
use Rattle.std.proofs.lemmas.List.Elements.{All-push}
use Rattle.ags_rows.specs.Contents.{group_contents, fields_of}
use Rattle.ags_links.specs.DataRows.{row_in}
use Rattle.ags_links.specs.Placing.{row_of, IsPlaced}
use Rattle.ags_links.proofs.Growing.{mapped_more}
use Rattle.ags_links.proofs.placed.place_group.Goals as goal

pub loop-row-preserved : goal.loop-row-preserved
loop-row-preserved c =
    rw c.in_ok-push.ensures.items
    (record {
      placed = All-push (IsPlaced c.args.groups.now) c.loop-row.rows.items _ c.loop-row.invariant.placed (c.requires.place, sym c.index-groups-place.is);
      rows = map-append row_of c.loop-row.rows.items _
          ∙ mapped_more (row_in (group_contents c.index-groups-place.result)) fields_of (map row_of c.args.rows.now.items) (map row_of c.loop-row.rows.items) c.as_slice-row-items.result.now c.loop-row.row-index c.row-item.result c.loop-row-test.true c.row-item.is c.loop-row.invariant.rows;
    })
