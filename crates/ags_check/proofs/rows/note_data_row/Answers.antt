use Rattle.std.proofs.lemmas.Result.{IfOk-weaker}
use Rattle.ags_rows.specs.declared.code.Code.TheVariants.{Rule10a, Rule10c}
use Rattle.ags_rows.specs.Collecting.{Adds, Notes}
use Rattle.ags_rows.specs.Contents.{group_contents, fields_of}
use Rattle.ags_rows.proofs.Lemmas.{adds_found, adds_unmet}
use Rattle.ags_links.specs.DataRows.{row_in}
use Rattle.ags_links.specs.Indexing.{rows_in}
use Rattle.ags_check.specs.RowRules.{RepeatsKey, LacksParentRow}
use Rattle.ags_check.proofs.RowNotes.{same_group, row_noted}
use Rattle.ags_check.proofs.rows.note_data_row.Goals as goal
use Rattle.ags_check.proofs.rows.note_data_row.Goals.{then-repeats_key+in_ok-note, else-repeats_key, then-lacks_parent+in_ok-note-2, else-lacks_parent}

pub repeats_key-requires-clause-row : goal.repeats_key-requires-clause-row
repeats_key-requires-clause-row c = λ row at. same_group (rows_in c.args.index.now) c.args.number row _ at c.requires.row

pub lacks_parent-requires-clause-row : goal.lacks_parent-requires-clause-row
lacks_parent-requires-clause-row c = λ row at. same_group (rows_in c.args.index.now) c.args.number row _ at c.requires.row

pub returns : goal.returns
returns c =
    let file = c.args.index.now in
    let group = c.args.outline.now.group in
    let row = c.args.row.now in
    let r = row_in (group_contents group) (fields_of row) in
    let f1 = c.note_entries.new.findings in
    let f3 = c.note_lacking.new.findings in
    let repeats = c.repeats_key.ensures r c.requires.row in
    let orphan = c.lacks_parent.ensures r c.requires.row in
    let key : Adds (Notes row.line Rule10a group.name (RepeatsKey file.entries file.contents c.args.number r)) f1 c.if-repeats_key.findings = elim c.if-repeats_key.branch [
      | then-repeats_key+in_ok-note w ↦ adds_found (repeats.0 w.if-repeats_key.true) (cc (c.name-name.ensures, w.findings-is, w.in_ok-note.ensures.noted))
      | else-repeats_key w ↦ adds_unmet w.if-repeats_key.false repeats.1 w.findings-is
    ] in
    let parent : Adds (Notes row.line Rule10c group.name (LacksParentRow file.entries file.contents r)) f3 c.if-lacks_parent.findings = elim c.if-lacks_parent.branch [
      | then-lacks_parent+in_ok-note-2 w ↦ adds_found (orphan.0 w.if-lacks_parent.true) (cc (c.name-name.ensures, w.findings-is, w.in_ok-note-2.ensures.noted))
      | else-lacks_parent w ↦ adds_unmet w.if-lacks_parent.false orphan.1 w.findings-is
    ] in
    let entries = rw c.requires.listed at c.in_ok-note_entries.ensures in
    let lacking = rw c.requires.entries at c.in_ok-note_lacking.ensures in
    IfOk-weaker c.note_unlisted_file_set.result _ _ (λ _ set.
    row_noted file.entries file.contents group c.args.number row _ _ _ _ _ _ _ entries key lacking parent c.in_ok-note_links.ensures set) c.note_unlisted_file_set.ensures
