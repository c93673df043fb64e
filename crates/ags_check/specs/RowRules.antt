-- The fifth phase: what the UNIT, TYPE and DATA rows of a file break. No fact here knows a line: `file` is what the
-- file holds, `entries` are those of the extended dictionary. What is under a heading that a group does not have
-- reads as null. The rules below the facts say at which line, with which code and which subject a fact is a finding.
use Rattle.std.specs.Prelude.{◌≡◌, ◌≢◌, ℕ, ◌+◌, ◌<◌, List, [], ◌∷◌, codes, false, Some, Contains}
use Rattle.ags_text.specs.Names.{is_definition}
use Rattle.ags_rows.specs.declared.code.Code.TheVariants.{Rule8, Rule10a, Rule10b, Rule10c, Rule11c, Rule15, Rule16, Rule17, Rule20}
use Rattle.ags_rows.specs.declared.finding.Finding.{Finding}
use Rattle.ags_rows.specs.declared.rows.Group.{Group}
use Rattle.ags_rows.specs.declared.rows.Row.{Row}
use Rattle.ags_rows.specs.Collecting.{At, Notes, Among, OneOf}
use Rattle.ags_rows.specs.Contents.{Contents, group_contents, contents_of, fields_of, under}
use Rattle.ags_rows.specs.Parts.{parts_at}
use Rattle.ags_cells.specs.Fits.{FitsTypeCode}
use Rattle.ags_dict.specs.Entries.{Entries, keys_of, required_of, parent_of}
use Rattle.ags_links.specs.DataRows.{DataRow, row_in, entry_of, data_rows, rows_before}
use Rattle.ags_links.specs.Keys.{HasKeyOf}
use Rattle.ags_links.specs.Parents.{IsParentRow}
use Rattle.ags_links.specs.RecordLinks.{separators_of, IsBroken}
use Rattle.ags_links.specs.Steps.{IsRecordLink}
use Rattle.ags_check.specs.Placing.{InSome}

-- ---- what the file lists

-- a row of the group of this name has the text under the heading
abbrev pub IsListed : List Contents → List ℕ → List ℕ → List ℕ → Type 0
IsListed file name heading text =
    (row : DataRow) × Contains (data_rows file) row × (row.group ≡ name) × (entry_of row heading ≡ text)

-- the text is not null, and not listed
abbrev pub IsUnlisted : List Contents → List ℕ → List ℕ → List ℕ → Type 0
IsUnlisted file name heading text = (text ≢ []) × ¬ (IsListed file name heading text)

-- a row of ABBR has the heading and the text
abbrev pub IsAbbreviation : List Contents → List ℕ → List ℕ → Type 0
IsAbbreviation file heading text = (row : DataRow) × Contains (data_rows file) row × (row.group ≡ codes "ABBR")
    × (entry_of row (codes "ABBR_HDNG") ≡ heading) × (entry_of row (codes "ABBR_CODE") ≡ text)

-- Rule 15: the unit is not null, and not listed in UNIT.
abbrev pub IsUnlistedUnit : List Contents → List ℕ → Type 0
IsUnlistedUnit file unit = IsUnlisted file (codes "UNIT") (codes "UNIT_UNIT") unit

-- Rule 17: the type is not null, and not listed in TYPE.
abbrev pub IsUnlistedType : List Contents → List ℕ → Type 0
IsUnlistedType file code = IsUnlisted file (codes "TYPE") (codes "TYPE_TYPE") code

-- Rule 16: the text is not null and not itself an abbreviation under the heading, and some part of it, cut at the
-- concatenator, is none.
abbrev pub IsUnlistedAbbreviation : List Contents → List ℕ → List ℕ → Type 0
IsUnlistedAbbreviation file heading text =
    (text ≢ []) × ¬ (IsAbbreviation file heading text)
    × ((part : List ℕ) × Contains (parts_at (separators_of file).concatenator text) part
    × ¬ (IsAbbreviation file heading part))

-- ---- of what is over a heading

-- the unit and the type over a heading
abbrev pub unit_over : Contents → List ℕ → List ℕ
unit_over group heading = under group.headings group.units heading

abbrev pub type_over : Contents → List ℕ → List ℕ
type_over group heading = under group.headings group.types heading

-- ---- of a DATA row

-- Rule 11c: in a data group, some part of the record link under the heading names no row.
abbrev pub IsBrokenLink : Entries → List Contents → DataRow → List ℕ → Type 0
IsBrokenLink entries file row heading =
    (is_definition row.group ≡ false) × IsRecordLink row heading
    × IsBroken entries (separators_of file) (data_rows file) row heading

-- Rule 10a: the group has KEY headings, and an earlier row of it has an equal key. The rows are numbered over the file.
abbrev pub RepeatsKey : Entries → List Contents → ℕ → DataRow → Type 0
RepeatsKey entries file number row =
    (keys_of entries row.group ≢ [])
    × ((earlier : ℕ) × (other : DataRow) × (earlier < number) × At (data_rows file) earlier other
    × HasKeyOf entries row other)

-- Rule 10c: the group has a parent group, and the row has no parent row.
abbrev pub LacksParentRow : Entries → List Contents → DataRow → Type 0
LacksParentRow entries file row = (parent : List ℕ) × (parent_of entries row.group ≡ Some parent)
    × ((other : DataRow) → Contains (data_rows file) other → ¬ (IsParentRow entries row other))

-- Rule 20: in a data group other than FILE, the FILE_FSET is not null and not listed in FILE.
abbrev pub IsUnlistedFileSet : List Contents → DataRow → Type 0
IsUnlistedFileSet file row = (is_definition row.group ≡ false) × (row.group ≢ codes "FILE")
    × IsUnlisted file (codes "FILE") (codes "FILE_FSET") (entry_of row (codes "FILE_FSET"))

-- ---- the rules

-- a DATA row of a group, with what its group says of it
abbrev pub headed_row : Group → Row → DataRow
headed_row group row = row_in (group_contents group) (fields_of row)

-- the rules on what is over a heading, in the UNIT and the TYPE row
abbrev pub unit_and_type_rules : List Contents → Group → List ℕ → List (Finding → Type 0)
unit_and_type_rules file group heading =
    Notes group.unit_line Rule15 heading (IsUnlistedUnit file (unit_over (group_contents group) heading))
    ∷ Notes group.type_line Rule17 heading (IsUnlistedType file (type_over (group_contents group) heading))
    ∷ []

-- the rules on an entry, by its line, its heading, that heading's unit and type, and its text; the subject is the
-- heading. Rule 8: it is not null, and does not fit type and unit. Rules 15, 16 and 17: of type PU, PA and PT, it is
-- not listed in UNIT, ABBR and TYPE.
abbrev pub data_entry_rules : List Contents → ℕ → List ℕ → List ℕ → List ℕ → List ℕ → List (Finding → Type 0)
data_entry_rules file line heading unit code text =
    Notes line Rule8 heading ((text ≢ []) × ¬ (FitsTypeCode code unit text))
    ∷ Notes line Rule15 heading ((code ≡ codes "PU") × IsUnlistedUnit file text)
    ∷ Notes line Rule16 heading ((code ≡ codes "PA") × IsUnlistedAbbreviation file heading text)
    ∷ Notes line Rule17 heading ((code ≡ codes "PT") × IsUnlistedType file text)
    ∷ []

-- the same on the entry of a DATA row under a heading
abbrev pub row_entry_rules : List Contents → Group → Row → List ℕ → List (Finding → Type 0)
row_entry_rules file group row heading =
    let contents = group_contents group in
    let text = entry_of (headed_row group row) heading in
    data_entry_rules file row.line heading (unit_over contents heading) (type_over contents heading) text

-- the rules on a DATA row, by its number in the file. Rule 10b: a REQUIRED entry is null.
abbrev pub data_row_rules : Entries → List Contents → Group → ℕ → Row → List (Finding → Type 0)
data_row_rules entries file group number row =
    let stands = headed_row group row in
    InSome group.headings (row_entry_rules file group row)
    ∷ Notes row.line Rule10a group.name (RepeatsKey entries file number stands)
    ∷ InSome (required_of entries group.name) (λ heading.
    Notes row.line Rule10b heading (entry_of stands heading ≡ []) ∷ [])
    ∷ Notes row.line Rule10c group.name (LacksParentRow entries file stands)
    ∷ InSome group.headings (λ heading. Notes row.line Rule11c heading (IsBrokenLink entries file stands heading) ∷ [])
    ∷ Notes row.line Rule20 (codes "FILE_FSET") (IsUnlistedFileSet file stands)
    ∷ []

-- the rules on one group, whose DATA rows are numbered from `first`
abbrev pub entry_rules_of : Entries → List Contents → ℕ → Group → List (Finding → Type 0)
entry_rules_of entries file first group =
    InSome group.headings (unit_and_type_rules file group)
    ∷ Among group.rows (λ place row f. OneOf (data_row_rules entries file group (first + place) row) f)
    ∷ []

-- the findings on the UNIT, TYPE and DATA rows of a file
abbrev pub StandsInEntries : Entries → List Group → Finding → Type 0
StandsInEntries entries groups =
    let file = contents_of groups in
    Among groups (λ place group f. OneOf (entry_rules_of entries file (rows_before file place) group) f)
