use Rattle.std.proofs.Common.{◌≡◌, ◌≢◌, ℕ, Bool, List, [], false, refl, subst, ◌↔◌, IsTrue, codes}
use Rattle.ags_rows.specs.declared.rows.Group.{Group}
use Rattle.ags_rows.specs.Contents.{Contents, group_contents, under}
use Rattle.ags_text.specs.Names.{is_definition}
use Rattle.ags_rows.proofs.Lemmas.{adds_found, adds_unmet}
use Rattle.ags_rows.specs.Collecting.{At}
use Rattle.ags_links.specs.DataRows.{row_in, data_rows}
use Rattle.ags_check.specs.RowRules.{IsUnlistedFileSet}
use Rattle.ags_check.proofs.FileSets.{HasFileRow, file_set_means}
use Rattle.ags_check.proofs.rows.note_unlisted_file_set.Goals as goal

-- the same of the fields of the row as of its cells
means : (file : List Contents) (n : ℕ) (group : Group) (fields cells : List (List ℕ)) (has b : Bool) → cells ≡ fields → At (data_rows file) n (row_in (group_contents group) fields) → IsTrue has ↔ HasFileRow file n
    → IsTrue b ↔ (is_definition group.name ≡ false) × (group.name ≢ codes "FILE") × ((under group.headings cells (codes "FILE_FSET") ≢ []) × (has ≡ false))
    → IsTrue b ↔ IsUnlistedFileSet file (row_in (group_contents group) fields)
means file n group fields cells has b same at has_file unlisted =
    file_set_means file n (row_in (group_contents group) fields) has b at has_file
    (subst (λ (f : List (List ℕ)). IsTrue b ↔ (is_definition group.name ≡ false) × (group.name ≢ codes "FILE") × ((under group.headings f (codes "FILE_FSET") ≢ []) × (has ≡ false))) same unlisted)

pub returns-in_ok-note : goal.returns-in_ok-note
returns-in_ok-note c =
    let unlisted = means c.args.index.now.contents c.args.number c.args.outline.now.group c.args.row.now.cells _ c.has_file-has_file.result _ c.as_slice.ensures c.requires c.has_file-has_file.ensures c.is_unlisted_file_set.ensures in
    adds_found (unlisted.0 c.if-is_unlisted_file_set.true) c.in_ok-note.ensures.noted

pub returns-else-is_unlisted_file_set : goal.returns-else-is_unlisted_file_set
returns-else-is_unlisted_file_set c =
    let unlisted = means c.args.index.now.contents c.args.number c.args.outline.now.group c.args.row.now.cells _ c.has_file-has_file.result _ c.as_slice.ensures c.requires c.has_file-has_file.ensures c.is_unlisted_file_set.ensures in
    adds_unmet c.if-is_unlisted_file_set.false unlisted.1 refl
