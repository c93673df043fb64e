use Rattle.std.proofs.Common.{◌≡◌, ◌≢◌, ◌∙◌, [], List, ℕ, get_or, ap, codes}
use Rattle.ags_rows.specs.declared.code.Code.TheVariants.{Rule8, Rule15, Rule16, Rule17}
use Rattle.ags_rows.specs.Collecting.{Adds, Notes}
use Rattle.ags_rows.specs.Contents.{group_contents, fields_of}
use Rattle.ags_rows.proofs.Lemmas.{adds_found, adds_unmet}
use Rattle.ags_cells.specs.Fits.{FitsTypeCode}
use Rattle.ags_check.specs.RowRules.{IsUnlistedUnit, IsUnlistedType, IsUnlistedAbbreviation}
use Rattle.ags_check.proofs.EntryNotes.{column_text, own_columns, entry_noted, entry_rules_in, entries_more, columns_all}
use Rattle.ags_check.proofs.rows.entries.note_entries.Goals as goal
use Rattle.ags_check.proofs.rows.entries.note_entries.Goals.{then-is_unfit+in_ok-note, else-is_unfit, then-is_unlisted_unit+in_ok-note-2, else-is_unlisted_unit, then-is_unlisted_abbreviation+in_ok-note-3, else-is_unlisted_abbreviation, then-is_unlisted_type+in_ok-note-4, else-is_unlisted_type}

pub is_unfit-requires : goal.is_unfit-requires
is_unfit-requires c =
    let are = own_columns _ _ _ _ c.outline.view_is c.as_slice-columns.ensures.value c.outline.invariant.columns in
    (are.each c.loop-column.column-index _ c.loop-column-test.true).typed

pub loop-column-preserved : goal.loop-column-preserved
loop-column-preserved c =
    let file = c.args.listed.now in
    let line = c.args.row.now.line in
    let group = c.args.outline.now.group in
    let columns = c.as_slice-columns.result.now in
    let fields = fields_of c.args.row.now in
    let i = c.loop-column.column-index in
    let text = c.cell_at-text.result.now in
    let column = get_or columns i _ in
    let h = column.heading.now in
    let code = column.code.now in
    let f1 = c.if-is_unfit.findings in
    let f2 = c.if-is_unlisted_unit.findings in
    let f3 = c.if-is_unlisted_abbreviation.findings in
    let are = own_columns _ _ _ _ c.outline.view_is c.as_slice-columns.ensures.value c.outline.invariant.columns in
    let stands : text ≡ column_text column fields = c.cell_at-text.ensures ∙ ap (λ (l : List (List ℕ)). column_text column l) c.as_slice-cells.ensures in
    let unfit : Adds (Notes line Rule8 h ((text ≢ []) × ¬ (FitsTypeCode code column.unit.now text))) c.loop-column.findings f1 = elim c.if-is_unfit.branch [
      | then-is_unfit+in_ok-note w ↦ adds_found (c.is_unfit.ensures.0 w.if-is_unfit.true) (w.findings-is ∙ w.in_ok-note.ensures.noted)
      | else-is_unfit w ↦ adds_unmet w.if-is_unfit.false c.is_unfit.ensures.1 w.findings-is
    ] in
    let unit : Adds (Notes line Rule15 h ((code ≡ codes "PU") × IsUnlistedUnit file text)) f1 f2 = elim c.if-is_unlisted_unit.branch [
      | then-is_unlisted_unit+in_ok-note-2 w ↦ adds_found (c.is_unlisted_unit.ensures.0 w.if-is_unlisted_unit.true) (w.findings-is ∙ w.in_ok-note-2.ensures.noted)
      | else-is_unlisted_unit w ↦ adds_unmet w.if-is_unlisted_unit.false c.is_unlisted_unit.ensures.1 w.findings-is
    ] in
    let abbreviation : Adds (Notes line Rule16 h ((code ≡ codes "PA") × IsUnlistedAbbreviation file h text)) f2 f3 = elim c.if-is_unlisted_abbreviation.branch [
      | then-is_unlisted_abbreviation+in_ok-note-3 w ↦ adds_found (c.is_unlisted_abbreviation.ensures.0 w.if-is_unlisted_abbreviation.true) (w.findings-is ∙ w.in_ok-note-3.ensures.noted)
      | else-is_unlisted_abbreviation w ↦ adds_unmet w.if-is_unlisted_abbreviation.false c.is_unlisted_abbreviation.ensures.1 w.findings-is
    ] in
    let type : Adds (Notes line Rule17 h ((code ≡ codes "PT") × IsUnlistedType file text)) f3 c.if-is_unlisted_type.findings = elim c.if-is_unlisted_type.branch [
      | then-is_unlisted_type+in_ok-note-4 w ↦ adds_found (c.is_unlisted_type.ensures.0 w.if-is_unlisted_type.true) (w.findings-is ∙ w.in_ok-note-4.ensures.noted)
      | else-is_unlisted_type w ↦ adds_unmet w.if-is_unlisted_type.false c.is_unlisted_type.ensures.1 w.findings-is
    ] in
    entries_more file line (group_contents group) group.headings fields columns i _ text _ _ _ are c.loop-column-test.true stands
    c.loop-column.invariant (entry_noted file line h column.unit.now code text _ _ _ _ _ unfit unit abbreviation type)

pub returns : goal.returns
returns c =
    let group = c.args.outline.now.group in
    let row = c.args.row.now in
    let are = own_columns _ _ _ _ c.outline.view_is c.as_slice-columns.ensures.value c.outline.invariant.columns in
    columns_all (entry_rules_in c.args.listed.now row.line (group_contents group) (fields_of row)) group.headings c.as_slice-columns.result.now
    _ _ _ are.heads c.loop-column-test.false c.loop-column.invariant
