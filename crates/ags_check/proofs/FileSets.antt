-- Rule 20: a file set is listed in FILE where a row of FILE has it.
use Rattle.std.proofs.Common.{◌≡◌, ◌≢◌, ℕ, Bool, false, List, [], sym, ap, ◌∙◌, ◌↔◌, IsTrue, codes}
use Rattle.std.proofs.lemmas.Bool.{true≢false, false_from_ne_true}
use Rattle.ags_rows.specs.Contents.{Contents}
use Rattle.ags_text.specs.Names.{is_definition}
use Rattle.ags_rows.specs.Collecting.{At}
use Rattle.ags_links.specs.DataRows.{DataRow, RowsRelate, entry_of, data_rows}
use Rattle.ags_links.specs.Steps.{IsFileRow}
use Rattle.ags_links.proofs.Lemmas.{one_at}
use Rattle.ags_check.specs.RowRules.{IsListed, IsUnlistedFileSet}

abbrev pub file_set : DataRow → List ℕ
file_set row = entry_of row (codes "FILE_FSET")

-- some row of FILE has the file set of row n
abbrev pub HasFileRow : List Contents → ℕ → Type 0
HasFileRow file n = (m : ℕ) × RowsRelate (data_rows file) IsFileRow n m

file_row_lists : (file : List Contents) (n : ℕ) (row : DataRow) → At (data_rows file) n row → HasFileRow file n → IsListed file (codes "FILE") (codes "FILE_FSET") (file_set row)
file_row_lists file n row at h =
    let same : h.1.0 ≡ row = one_at (data_rows file) n h.1.0 row h.1.2 at in
    (h.1.1, (h.0, h.1.3.0, h.1.3.1), h.1.4.0, h.1.4.2 ∙ ap file_set same)

lists_file_row : (file : List Contents) (n : ℕ) (row : DataRow) → At (data_rows file) n row → file_set row ≢ [] → IsListed file (codes "FILE") (codes "FILE_FSET") (file_set row) → HasFileRow file n
lists_file_row file n row at some l = (l.1.0, (row, l.0, at, (l.1.1, l.1.2), (l.2, some, l.3)))

-- a file set that is not null is unlisted where no row of FILE has it
pub file_set_means : (file : List Contents) (n : ℕ) (row : DataRow) (has b : Bool) → At (data_rows file) n row → IsTrue has ↔ HasFileRow file n
    → IsTrue b ↔ (is_definition row.group ≡ false) × (row.group ≢ codes "FILE") × ((file_set row ≢ []) × (has ≡ false)) → IsTrue b ↔ IsUnlistedFileSet file row
file_set_means file n row has b at means holds = (
  λ e. (
      let h = holds.0 e in
      (h.0, h.1, (h.2.0, λ l. true≢false (sym (means.1 (lists_file_row file n row at h.2.0 l)) ∙ h.2.1)))
      ),
  λ u. holds.1 (u.0, u.1, (u.2.0, false_from_ne_true has (λ e. u.2.1 (file_row_lists file n row at (means.0 e))))),
)
