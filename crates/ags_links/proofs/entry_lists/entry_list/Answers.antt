use Rattle.std.proofs.Common.{◌≡◌, ◌∙◌, ap, get_or, sym}
use Rattle.ags_rows.specs.Contents.{field_at, place_in}
use Rattle.ags_links.specs.DataRows.{entry_of}
use Rattle.ags_links.specs.declared.placed.PlacedRow.{PlacedRow}
use Rattle.ags_links.specs.EntryLists.{IsEntryUnder}
use Rattle.ags_links.specs.Placing.{row_of}
use Rattle.ags_links.proofs.Kept.{kept_next}
use Rattle.ags_links.proofs.RowLemmas.{one_at, read_at}
use Rattle.ags_links.proofs.entry_lists.entry_list.Goals as goal

pub loop-number-preserved : goal.loop-number-preserved
loop-number-preserved c =
    let rows = c.args.filed.now.rows.now in
    let numbers = c.args.numbers.now in
    let heading = c.args.heading.now in
    let i = c.loop-number.number-index in
    let n = get_or numbers i 0 in
    let row = c.row.result.0.now in
    let under : c.field.result.now ≡ entry_of (row_of row) heading =
    c.field.ensures ∙ ap (field_at (row_of row).fields) (c.find.ensures ∙ ap (λ hs. place_in hs heading) c.row.ensures.kept.headings) in
    rw c.in_ok-push.ensures.items
    (kept_next (λ place. IsEntryUnder rows heading) numbers i c.loop-number.entries.items n c.field.result c.loop-number-test.true (sym (read_at numbers i 0 c.loop-number-test.true).1) c.loop-number.invariant
    (λ other at. under ∙ ap (λ (r : PlacedRow). entry_of (row_of r) heading) (one_at rows n row other c.row.ensures.row at)))
