use Rattle.std.proofs.Common.{◌∙◌, get_or, sym, subst}
use Rattle.ags_rows.specs.declared.code.Code.TheVariants.{Rule15, Rule17}
use Rattle.ags_rows.specs.Collecting.{Adds, Notes}
use Rattle.ags_rows.specs.Contents.{group_contents}
use Rattle.ags_rows.proofs.Lemmas.{adds_found, adds_unmet}
use Rattle.ags_check.specs.Columns.{AreColumns, Outlined}
use Rattle.ags_check.specs.Placing.{InSome}
use Rattle.ags_check.specs.RowRules.{unit_and_type_rules, IsUnlistedUnit, IsUnlistedType}
use Rattle.ags_check.proofs.EntryNotes.{header_more, columns_all}
use Rattle.ags_check.proofs.rows.entries.note_columns.Goals as goal
use Rattle.ags_check.proofs.rows.entries.note_columns.Goals.{then-is_unlisted_unit+in_ok-note, else-is_unlisted_unit, then-is_unlisted_type+in_ok-note-2, else-is_unlisted_type}

pub loop-column-preserved : goal.loop-column-preserved
loop-column-preserved c =
    let file = c.args.listed.now in
    let group = c.outline.inside.group.now in
    let columns = c.as_slice-columns.result.now in
    let i = c.loop-column.column-index in
    let column = get_or columns i _ in
    let half = c.if-is_unlisted_unit.findings in
    let are = subst (AreColumns (group_contents group) group.headings) (sym c.as_slice-columns.ensures.value) c.outline.invariant.columns in
    let unit : Adds (Notes group.unit_line Rule15 column.heading.now (IsUnlistedUnit file column.unit.now)) c.loop-column.findings half = elim c.if-is_unlisted_unit.branch [
      | then-is_unlisted_unit+in_ok-note w ↦ adds_found (c.is_unlisted_unit.ensures.0 w.if-is_unlisted_unit.true) (w.findings-is ∙ w.in_ok-note.ensures.noted)
      | else-is_unlisted_unit w ↦ adds_unmet w.if-is_unlisted_unit.false c.is_unlisted_unit.ensures.1 w.findings-is
    ] in
    let type : Adds (Notes group.type_line Rule17 column.heading.now (IsUnlistedType file column.code.now)) half c.if-is_unlisted_type.findings = elim c.if-is_unlisted_type.branch [
      | then-is_unlisted_type+in_ok-note-2 w ↦ adds_found (c.is_unlisted_type.ensures.0 w.if-is_unlisted_type.true) (w.findings-is ∙ w.in_ok-note-2.ensures.noted)
      | else-is_unlisted_type w ↦ adds_unmet w.if-is_unlisted_type.false c.is_unlisted_type.ensures.1 w.findings-is
    ] in
    header_more file group columns i _ _ _ _ _ are c.loop-column-test.true c.loop-column.invariant unit type

pub returns : goal.returns
returns c =
    let group = c.outline.inside.group.now in
    let are = subst (AreColumns (group_contents group) group.headings) (sym c.as_slice-columns.ensures.value) c.outline.invariant.columns in
    subst (λ (v : Outlined). Adds (InSome v.group.headings (unit_and_type_rules c.args.listed.now v.group)) c.args.findings.now c.loop-column.findings) c.outline.view_is
    (columns_all (unit_and_type_rules c.args.listed.now group) group.headings c.as_slice-columns.result.now _ _ _ are.heads c.loop-column-test.false c.loop-column.invariant)
