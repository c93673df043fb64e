-- What an index keeps, and what it answers where rows are given by number.
use Rattle.std.specs.Prelude.{◌≡◌, ◌≢◌, ◌<◌, ◌^◌, ◌↔◌, ℕ, List, Bool, All, Contains, IsTrue, codes, false, map, length}
use Rattle.std.specs.Borrow.{Bor}
use Rattle.ags_rows.specs.declared.rows.Group.{Group}
use Rattle.ags_rows.specs.Contents.{contents_of}
use Rattle.ags_text.specs.Names.{is_definition}
use Rattle.ags_dict.specs.Entries.{Entries}
use Rattle.ags_links.specs.declared.families.Family.{Family}
use Rattle.ags_links.specs.declared.index.Targets.{Targets}
use Rattle.ags_links.specs.Lookups.{Lookup, Finds}
use Rattle.ags_links.specs.declared.lookup.Span.{Span}
use Rattle.ags_links.specs.declared.parents.ParentLists.{ParentLists}
use Rattle.ags_links.specs.declared.placed.PlacedRow.{PlacedRow}
use Rattle.ags_links.specs.declared.separators.Separators.{Separators}
use Rattle.ags_rows.specs.Collecting.{At}
use Rattle.ags_links.specs.DataRows.{DataFile, DataRow, data_rows, RowsRelate}
use Rattle.ags_links.specs.Families.{HasText, HasKeyText, HasFileSet, AreFamilies}
use Rattle.ags_links.specs.Keys.{IsFirstOfKey, AreFirstsOfKeys}
use Rattle.ags_links.specs.ParentRows.{AreParentLists}
use Rattle.ags_links.specs.Parents.{IsParentRow}
use Rattle.ags_links.specs.Placing.{IsPlaced, row_of, ListsTexts}
use Rattle.ags_links.specs.RecordLinks as links
use Rattle.ags_links.specs.Steps.{IsFileRow, IsLinkedPart, Linked}
use Rattle.ags_links.specs.Targets.{AreTargets}

-- the index of these groups under these entries
pub record Indexes (groups : List Group) (entries : Entries) (rows : List PlacedRow) (kept : List Family)
    (parents : ParentLists) (spans : List Span) (firsts : List ℕ) (by_key by_file_set : Lookup)
    (separators : Separators) : Type 0 where
  pub placed : All (IsPlaced groups) rows
  pub numbered : map row_of rows ≡ data_rows (contents_of groups)
  pub few : length rows < 2 ^ 32
  pub families : AreFamilies entries groups kept
  pub parented : AreParentLists entries rows parents spans
  pub first : AreFirstsOfKeys (map row_of rows) entries firsts
  pub keyed : Finds by_key (HasText (map row_of rows) (HasKeyText entries))
  pub filed : Finds by_file_set (HasText (map row_of rows) HasFileSet)
  pub separated : separators ≡ links.separators_of (contents_of groups)

-- the DATA rows of the file
abbrev pub rows_in : DataFile → List DataRow
rows_in file = data_rows file.contents

-- row m is a parent row of row n
abbrev pub IsParentAt : DataFile → ℕ → ℕ → Type 0
IsParentAt file = RowsRelate (rows_in file) (IsParentRow file.entries)

-- row m is the first row of row n's group with an equal key
abbrev pub IsFirstOfKeyAt : DataFile → ℕ → ℕ → Type 0
IsFirstOfKeyAt file = IsFirstOfKey (rows_in file) file.entries

-- row m is a row of FILE with row n's FILE_FSET
abbrev pub IsFileRowAt : DataFile → ℕ → ℕ → Type 0
IsFileRowAt file = RowsRelate (rows_in file) IsFileRow

-- the part names row n
abbrev pub IsNamedBy : DataFile → List ℕ → ℕ → Type 0
IsNamedBy file = links.NamesAt file.entries (links.separators_of file.contents) (rows_in file)

-- one of the parts names row n
abbrev pub IsNamedAmong : DataFile → List (List ℕ) → ℕ → Type 0
IsNamedAmong file parts n = (part : List ℕ) × Contains parts part × IsNamedBy file part n

-- one of row n's record links names row m
abbrev pub IsLinkedAt : DataFile → ℕ → ℕ → Type 0
IsLinkedAt file = RowsRelate (rows_in file) (Linked file.entries (links.separators_of file.contents))

-- row n has a step to row m by its record links, if it is in a data group
abbrev pub IsLinkStepAt : DataFile → ℕ → ℕ → Type 0
IsLinkStepAt file =
    RowsRelate (rows_in file)
    (λ r s. (is_definition r.group ≡ false) × Linked file.entries (links.separators_of file.contents) r s)

-- row n has a step to row m of FILE, if it is in a data group other than FILE
abbrev pub IsFileStepAt : DataFile → ℕ → ℕ → Type 0
IsFileStepAt file =
    RowsRelate (rows_in file) (λ r s. (is_definition r.group ≡ false) × (r.group ≢ codes "FILE") × IsFileRow r s)

-- the list has exactly the parts of what is in row n under the heading
abbrev pub ListsPartsAt : DataFile → ℕ → List ℕ → List (Bor (List ℕ)) → Type 0
ListsPartsAt file n heading parts = (r : DataRow) → At (rows_in file) n r
    → ListsTexts parts (links.IsPartOf (links.separators_of file.contents) r heading)

-- the list has exactly the parts of row n's record links
abbrev pub ListsLinkedPartsAt : DataFile → ℕ → List (Bor (List ℕ)) → Type 0
ListsLinkedPartsAt file n parts = (r : DataRow) → At (rows_in file) n r
    → ListsTexts parts (IsLinkedPart (links.separators_of file.contents) r)

-- the answer says whether some part of what is in row n under the heading names no row
abbrev pub TellsIfBroken : DataFile → ℕ → List ℕ → Bool → Type 0
TellsIfBroken file n heading answer = (r : DataRow) → At (rows_in file) n r
    → IsTrue answer ↔ links.IsBroken file.entries (links.separators_of file.contents) (rows_in file) r heading

-- these are the targets of row n under the heading
abbrev pub AreTargetsAt : DataFile → ℕ → List ℕ → Targets → Type 0
AreTargetsAt file n heading targets =
    (r : DataRow) → At (rows_in file) n r
    → AreTargets file.entries (links.separators_of file.contents) (rows_in file) r heading targets
