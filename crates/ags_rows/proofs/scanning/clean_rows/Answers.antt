use Rattle.std.proofs.Common.{[]}
use Rattle.std.proofs.lemmas.Result.{IfOk-weaker}
use Rattle.ags_rows.proofs.Files.{lines_few}
use Rattle.ags_rows.proofs.FirstPhase.{rows_strict}
use Rattle.ags_rows.proofs.scanning.clean_rows.Goals as goal

pub note_lines-requires : goal.note_lines-requires
note_lines-requires c =
    rw c.as_slice.ensures.value (lines_few c.args.bytes.now _ c.in_ok-lines.lines.items _ c.after_byte_order_mark.ensures c.in_ok-lines.ensures c.requires)

pub spelled_rows-requires : goal.spelled_rows-requires
spelled_rows-requires c =
    rw c.as_slice-2.ensures.value (lines_few c.args.bytes.now _ c.in_ok-lines.lines.items _ c.after_byte_order_mark.ensures c.in_ok-lines.ensures c.requires)

pub returns-clause-rows : goal.returns-clause-rows
returns-clause-rows c =
    let cut = rw c.after_byte_order_mark.ensures at c.in_ok-lines.ensures in
    let first = rw (c.new-findings.ensures, c.as_slice.ensures.value) at c.in_ok-note_lines.ensures in
    let taken = rw c.as_slice-2.ensures.value at c.spelled_rows.ensures.rows in
    IfOk-weaker c.spelled_rows.result _ _ (λ rows h. rows_strict c.args.bytes.now _ _ rows.items [] cut first h) taken

pub returns-clause-findings : goal.returns-clause-findings
returns-clause-findings c = λ found is.
    let cut = rw c.after_byte_order_mark.ensures at c.in_ok-lines.ensures in
    let first = rw (c.new-findings.ensures, c.as_slice.ensures.value) at c.in_ok-note_lines.ensures in
    let h = rw c.as_slice-2.ensures.value at (c.spelled_rows.ensures.findings found is) in
    (h.0, (h.1.0, rows_strict c.args.bytes.now _ _ h.1.0 found cut first h.1.1))
