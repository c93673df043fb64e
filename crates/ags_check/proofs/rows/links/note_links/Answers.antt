use Rattle.std.proofs.Common.{◌≡◌, ◌∙◌, not, List, [], ◌∷◌, ℕ, get_or, sym, ap}
use Rattle.std.proofs.lemmas.Bool.{not-true, not-false}
use Rattle.ags_rows.specs.declared.code.Code.TheVariants.{Rule11c}
use Rattle.ags_rows.specs.Collecting.{Adds, Notes}
use Rattle.ags_rows.specs.Contents.{group_contents, fields_of}
use Rattle.ags_text.specs.Names.{is_definition}
use Rattle.ags_rows.proofs.Lemmas.{adds_found, adds_unmet, one_rule}
use Rattle.ags_check.specs.Columns.{Outlined}
use Rattle.ags_check.specs.RowRules.{headed_row, IsBrokenLink}
use Rattle.ags_check.proofs.EntryNotes.{column_text, own_columns, columns_more, columns_all}
use Rattle.ags_check.proofs.LinkNotes.{link_at, no_links}
use Rattle.ags_check.proofs.rows.links.note_links.Goals as goal
use Rattle.ags_check.proofs.rows.links.note_links.Goals.{then-branch+in_ok-note, else-branch}

pub returns-then-not-outline : goal.returns-then-not-outline
returns-then-not-outline c =
    let file = c.args.index.now in
    let row = c.args.row.now in
    let group = c.args.outline.now.group in
    let same = ap (λ (v : Outlined). not (is_definition v.group.name)) c.outline.view_is in
    no_links file.entries file.contents row.line (group_contents group) (fields_of row) group.headings c.args.findings.now
    (not-false _ (sym (c.outline.invariant.is_data ∙ same) ∙ c.if-not-outline.true))

pub loop-column-preserved : goal.loop-column-preserved
loop-column-preserved c =
    let entries = c.args.index.now.entries in
    let file = c.args.index.now.contents in
    let line = c.args.row.now.line in
    let group = c.args.outline.now.group in
    let fields = fields_of c.args.row.now in
    let row = headed_row group c.args.row.now in
    let columns = c.as_slice-columns.result.now in
    let i = c.loop-column.column-index in
    let column = get_or columns i _ in
    let text = c.cell_at-text.result.now in
    let are = own_columns _ _ _ _ c.outline.view_is c.as_slice-columns.ensures.value c.outline.invariant.columns in
    let same = ap (λ (v : Outlined). not (is_definition v.group.name)) c.outline.view_is in
    let data_group = not-true _ (sym (c.outline.invariant.is_data ∙ same) ∙ c.if-not-outline.false) in
    let stands : text ≡ column_text column fields = c.cell_at-text.ensures ∙ ap (λ (l : List (List ℕ)). column_text column l) c.as_slice-cells.ensures in
    let means = link_at entries file (group_contents group) fields columns i _ text _ are data_group c.loop-column-test.true stands (c.in_ok-is_broken_link.ensures row c.requires) in
    let here : Adds (Notes line Rule11c column.heading.now (IsBrokenLink entries file row column.heading.now)) c.loop-column.findings c.if-branch.findings = elim c.if-branch.branch [
      | then-branch+in_ok-note w ↦ adds_found (means.0 w.if-branch.true) (w.findings-is ∙ w.in_ok-note.ensures.noted)
      | else-branch w ↦ adds_unmet w.if-branch.false means.1 w.findings-is
    ] in
    columns_more (λ heading. Notes line Rule11c heading (IsBrokenLink entries file row heading) ∷ []) group.headings columns i _ _ _ _ are.heads c.loop-column-test.true c.loop-column.invariant (one_rule _ _ here)

pub returns : goal.returns
returns c =
    let file = c.args.index.now in
    let group = c.args.outline.now.group in
    let row = c.args.row.now in
    let are = own_columns _ _ _ _ c.outline.view_is c.as_slice-columns.ensures.value c.outline.invariant.columns in
    columns_all (λ heading. Notes row.line Rule11c heading (IsBrokenLink file.entries file.contents (headed_row group row) heading) ∷ []) group.headings c.as_slice-columns.result.now
    _ _ _ are.heads c.loop-column-test.false c.loop-column.invariant
