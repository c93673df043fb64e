use Rattle.std.proofs.Common.{◌≡◌, ◌++◌, ap, ◌∙◌, sym, get_or, map, arith}
use Rattle.std.proofs.lemmas.List.{take_all}
use Rattle.ags_rows.specs.Contents.{group_contents, contents_of}
use Rattle.ags_links.specs.DataRows.{data_rows_of_group, data_rows}
use Rattle.ags_links.specs.Placing.{row_of}
use Rattle.ags_links.proofs.Kept.{data_rows_next, kept_counted}
use Rattle.ags_links.proofs.RowLemmas.{some_at}
use Rattle.ags_links.proofs.placed.place_rows.Goals as goal

pub loop-place-preserved : goal.loop-place-preserved
loop-place-preserved c =
    let groups = c.groups-groups.result.now in
    let d = (some_at groups c.loop-place.place c.loop-place-test.true).0 in
    record {
      placed = c.in_ok-place_group.ensures.placed;
      rows = c.in_ok-place_group.ensures.rows d ∙ ap (λ l. l ++ data_rows_of_group (group_contents (get_or groups c.loop-place.place d))) c.loop-place.invariant.rows ∙ sym (data_rows_next groups c.loop-place.place d c.loop-place-test.true);
    }

pub returns-clause-few : goal.returns-clause-few
returns-clause-few c =
    let all : map row_of c.loop-place.rows.items ≡ data_rows (contents_of c.args.scan.now) =
    c.loop-place.invariant.rows ∙ ap (λ gs. data_rows (contents_of gs)) (take_all c.loop-place.place c.groups-groups.result.now c.loop-place-test.false ∙ c.groups-groups.ensures) in
    omega (arith, kept_counted c.args.scan.now c.loop-place.rows.items all, c.row_count-count.ensures)
