-- What the functions of the fifth phase compute on the way.
use Rattle.std.specs.Prelude.{◌≡◌, ◌≢◌, ◌↔◌, ◌+◌, ℕ, List, [], ◌∷◌, Bool, false, codes, IsTrue}
use Rattle.ags_rows.specs.declared.code.Code.TheVariants.{Rule10b, Rule11c, Rule20}
use Rattle.ags_rows.specs.declared.finding.Finding.{Finding}
use Rattle.ags_rows.specs.declared.rows.Group.{Group}
use Rattle.ags_rows.specs.declared.rows.Row.{Row}
use Rattle.ags_rows.specs.Collecting.{At, Notes, Among, OneOf}
use Rattle.ags_rows.specs.Contents.{Contents, under}
use Rattle.ags_text.specs.Names.{is_definition}
use Rattle.ags_dict.specs.Entries.{Entries, required_of}
use Rattle.ags_links.specs.DataRows.{DataFile, DataRow, entry_of}
use Rattle.ags_links.specs.Indexing.{rows_in}
use Rattle.ags_links.specs.RecordLinks.{separators_of, IsBroken}
use Rattle.ags_check.specs.Placing.{InSome}
use Rattle.ags_check.specs.RowRules.{IsBrokenLink, IsUnlistedFileSet, headed_row, unit_and_type_rules, row_entry_rules, data_row_rules, entry_rules_of}
use Rattle.ags_check.specs.declared.rows.columns.Column.{Column}

-- ---- the rules on a group and on a DATA row, one by one

-- what the UNIT and the TYPE row of a group break, over each heading
abbrev pub InUnitsAndTypes : List Contents → Group → Finding → Type 0
InUnitsAndTypes file group = InSome group.headings (unit_and_type_rules file group)

-- what the entries of a DATA row break, each under its heading
abbrev pub InEntries : List Contents → Group → Row → Finding → Type 0
InEntries file group row = InSome group.headings (row_entry_rules file group row)

-- Rule 11c: a record link of a DATA row is broken; the subject is its heading.
abbrev pub InLinks : Entries → List Contents → Group → Row → Finding → Type 0
InLinks entries file group row =
    InSome group.headings (λ heading.
    Notes row.line Rule11c heading (IsBrokenLink entries file (headed_row group row) heading) ∷ [])

-- Rule 10b: a REQUIRED entry of a DATA row is null; the subject is its heading.
abbrev pub InRequired : Entries → Group → Row → Finding → Type 0
InRequired entries group row =
    InSome (required_of entries group.name) (λ heading.
    Notes row.line Rule10b heading (entry_of (headed_row group row) heading ≡ []) ∷ [])

-- Rule 20: the file set of a DATA row is unlisted; the subject is FILE_FSET.
abbrev pub InFileSet : List Contents → Group → Row → Finding → Type 0
InFileSet file group row = Notes row.line Rule20 (codes "FILE_FSET") (IsUnlistedFileSet file (headed_row group row))

-- ---- what a file breaks, by its contents and its entries together

-- what a DATA row of a group breaks, by its number in the file
abbrev pub InDataRow : DataFile → Group → ℕ → Row → Finding → Type 0
InDataRow file group number row = OneOf (data_row_rules file.entries file.contents group number row)

-- what the DATA rows of a group break, numbered from `first`
abbrev pub InDataRows : DataFile → ℕ → Group → Finding → Type 0
InDataRows file first group = Among group.rows (λ place row. InDataRow file group (first + place) row)

-- what the UNIT, TYPE and DATA rows of a group break, the DATA rows numbered from `first`
abbrev pub InGroupRows : DataFile → ℕ → Group → Finding → Type 0
InGroupRows file first group = OneOf (entry_rules_of file.entries file.contents first group)

-- ---- of one row

-- the answer says whether this holds of the row of this number
abbrev pub SaysOfRow : DataFile → ℕ → (DataRow → Type 0) → Bool → Type 0
SaysOfRow file number Holds answer = (row : DataRow) → At (rows_in file) number row → IsTrue answer ↔ Holds row

-- the column is of type RL, the text is not null, and some part of the row's entry under the column's heading names no
-- row
abbrev pub HasBrokenLink : DataFile → Column → List ℕ → DataRow → Type 0
HasBrokenLink file column text row = (column.code.now ≡ codes "RL") × (text ≢ [])
    × IsBroken file.entries (separators_of file.contents) (rows_in file) row column.heading.now

-- Rule 20: the group is a data group other than FILE, the FILE_FSET among the cells is not null, and there is no file
-- for it
abbrev pub LacksFile : Group → List (List ℕ) → Bool → Type 0
LacksFile group cells has_file = (is_definition group.name ≡ false) × (group.name ≢ codes "FILE")
    × ((under group.headings cells (codes "FILE_FSET") ≢ []) × (has_file ≡ false))
