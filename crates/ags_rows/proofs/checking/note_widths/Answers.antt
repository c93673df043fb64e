use Rattle.std.proofs.Common.{◌≢◌, length, sym}
use Rattle.ags_rows.specs.declared.code.Code.TheVariants.{Rule4}
use Rattle.ags_rows.specs.Collecting.{At, Notes}
use Rattle.ags_rows.proofs.Collecting.{among_more, among_all}
use Rattle.ags_rows.proofs.checking.note_widths.Goals as goal

pub loop-row-preserved : goal.loop-row-preserved
loop-row-preserved c =
    let rows = c.args.rows.now in
    let row = c.row-item.result in
    let here = rw c.len.ensures at c.in_ok-note_width.ensures in
    let at : At rows c.loop-row.row-index row = (c.loop-row-test.true, sym c.row-item.is) in
    among_more rows (λ place row. Notes row.line Rule4 c.args.name.now (length row.cells ≢ c.args.width)) _ row _ _ _ at c.loop-row.invariant here

pub returns : goal.returns
returns c =
    among_all c.args.rows.now (λ place row. Notes row.line Rule4 c.args.name.now (length row.cells ≢ c.args.width)) _ _ _ c.loop-row-test.false c.loop-row.invariant
