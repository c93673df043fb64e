use Rattle.std.proofs.Common.{◌≡◌, ◌∙◌, List, ℕ, [], ◌∷◌, get_or, ap}
use Rattle.ags_rows.specs.declared.code.Code.TheVariants.{Rule10b}
use Rattle.ags_rows.specs.Collecting.{Adds, Notes}
use Rattle.ags_rows.specs.Contents.{group_contents, fields_of}
use Rattle.ags_rows.proofs.Lemmas.{adds_found, adds_unmet, one_rule}
use Rattle.ags_dict.specs.Entries.{required_of}
use Rattle.ags_links.specs.DataRows.{entry_of}
use Rattle.ags_check.specs.RowRules.{headed_row}
use Rattle.ags_check.proofs.EntryNotes.{column_text, required_columns, columns_more, columns_all}
use Rattle.ags_check.proofs.LinkNotes.{lacking_means}
use Rattle.ags_check.proofs.rows.entries.note_lacking.Goals as goal
use Rattle.ags_check.proofs.rows.entries.note_lacking.Goals.{then-is_empty+in_ok-note, else-is_empty}

pub loop-column-preserved : goal.loop-column-preserved
loop-column-preserved c =
    let line = c.args.row.now.line in
    let group = c.args.outline.now.group in
    let fields = fields_of c.args.row.now in
    let row = headed_row group c.args.row.now in
    let headings = required_of c.args.outline.now.entries group.name in
    let columns = c.as_slice-required.result.now in
    let i = c.loop-column.column-index in
    let column = get_or columns i _ in
    let text = c.cell_at-text.result.now in
    let are = required_columns _ _ _ _ c.outline.view_is c.as_slice-required.ensures.value c.outline.invariant.required in
    let stands : text ≡ column_text column fields = c.cell_at-text.ensures ∙ ap (λ (l : List (List ℕ)). column_text column l) c.as_slice-cells.ensures in
    let means = lacking_means (group_contents group) column fields text c.is_empty.result (are.each i _ c.loop-column-test.true) stands c.is_empty.ensures in
    let here : Adds (Notes line Rule10b column.heading.now (entry_of row column.heading.now ≡ [])) c.loop-column.findings c.if-is_empty.findings = elim c.if-is_empty.branch [
      | then-is_empty+in_ok-note w ↦ adds_found (means.0 w.if-is_empty.true) (w.findings-is ∙ w.in_ok-note.ensures.noted)
      | else-is_empty w ↦ adds_unmet w.if-is_empty.false means.1 w.findings-is
    ] in
    columns_more (λ heading. Notes line Rule10b heading (entry_of row heading ≡ []) ∷ []) headings columns i _ _ _ _ are.heads c.loop-column-test.true c.loop-column.invariant (one_rule _ _ here)

pub returns : goal.returns
returns c =
    let outline = c.args.outline.now in
    let row = c.args.row.now in
    let are = required_columns _ _ _ _ c.outline.view_is c.as_slice-required.ensures.value c.outline.invariant.required in
    columns_all (λ heading. Notes row.line Rule10b heading (entry_of (headed_row outline.group row) heading ≡ []) ∷ []) (required_of outline.entries outline.group.name) c.as_slice-required.result.now
    _ _ _ are.heads c.loop-column-test.false c.loop-column.invariant
