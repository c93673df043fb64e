-- What a file holds, without its line numbers, and the file that is written of it.
use Rattle.std.specs.Prelude.{◌≡◌, ◌≢◌, ◌<◌, ℕ, List, [], ◌∷◌, ◌++◌, map, flat_map, length, true}
use Rattle.std.specs.List.{AllByRecursion, AllPairs}
use Rattle.ags_rows.specs.declared.rows.Ending.TheVariants.{CrLf}
use Rattle.ags_rows.specs.declared.rows.Descriptor.{Descriptor}
use Rattle.ags_rows.specs.declared.rows.Row.{Row}
use Rattle.ags_text.specs.Bytes.{ascii_end, carriage_return, line_feed}
use Rattle.ags_text.specs.Names.{is_group_name, is_heading_name}
use Rattle.ags_rows.specs.Contents.{Contents, fields_of}
use Rattle.ags_rows.specs.Lines.{TextLine, line_bytes}
use Rattle.ags_rows.specs.Rows.{descriptor_text}
use Rattle.ags_rows.specs.Spelling.{line_of}
use Rattle.ags_rows.specs.RowTexts.{each_row}

-- the line of a row, in its one spelling
abbrev pub written_row : Descriptor → List (List ℕ) → TextLine
written_row kind items = record { content = line_of (descriptor_text kind ∷ items); ending = CrLf }

-- a group, part by part
abbrev pub contents_from : List ℕ → List (List ℕ) → List (List ℕ) → List (List ℕ) → List (List (List ℕ)) → Contents
contents_from name headings units types rows =
    record { name = name; headings = headings; units = units; types = types; rows = rows }

-- the lines of a group: one for each of its rows
abbrev pub group_lines : Contents → List TextLine
group_lines group = each_row written_row group

-- a line of no bytes
abbrev pub empty_line : TextLine
empty_line = record { content = []; ending = CrLf }

-- the lines of a file: an empty one between groups
abbrev pub written_lines : List Contents → List TextLine
written_lines [] = []
written_lines (group ∷ []) = group_lines group
written_lines (group ∷ next ∷ groups) = group_lines group ++ empty_line ∷ written_lines (next ∷ groups)

-- the bytes of lines
abbrev pub text_of : List TextLine → List ℕ
text_of lines = flat_map line_bytes lines

-- the bytes that are written of a group: of its name, its other header rows and its DATA rows
abbrev pub written_group : List ℕ → List (List ℕ) → List (List ℕ) → List (List ℕ) → List Row → List ℕ
written_group name headings units types rows =
    text_of (group_lines (contents_from name headings units types (map fields_of rows)))

abbrev pub written_file : List Contents → List ℕ
written_file groups = text_of (written_lines groups)

-- ASCII, and no end of a line
pub record IsPlainByte (b : ℕ) : Type 0 where
  pub ascii : b < ascii_end
  pub no_return : b ≢ carriage_return
  pub no_feed : b ≢ line_feed

abbrev pub ArePlain : List (List ℕ) → Type 0
ArePlain fields = AllByRecursion (λ f. AllByRecursion IsPlainByte f) fields

-- a group of bytes that can be written
pub record IsPlainGroup (group : Contents) : Type 0 where
  pub name : AllByRecursion IsPlainByte group.name
  pub headings : ArePlain group.headings
  pub units : ArePlain group.units
  pub types : ArePlain group.types
  pub rows : AllByRecursion ArePlain group.rows

-- no text occurs twice
abbrev pub AreDistinct : List (List ℕ) → Type 0
AreDistinct texts = AllPairs (λ text later. text ≢ later) texts

-- as many fields as there are headings, of bytes that can be written
pub record AreUnder (headings fields : List (List ℕ)) : Type 0 where
  pub count : length fields ≡ length headings
  pub plain : ArePlain fields

-- Rules 4, 19a: there is a heading, each has a right name, and none occurs twice.
pub record AreHeadings (headings : List (List ℕ)) : Type 0 where
  pub some : headings ≢ []
  pub named : AllByRecursion (λ heading. is_heading_name heading ≡ true) headings
  pub once : AreDistinct headings

-- Rules 2, 4, 19: a right name, headings, and a DATA row; each row has as many fields as there are headings.
pub record IsWellFormedGroup (group : Contents) : Type 0 where
  pub name : is_group_name group.name ≡ true
  pub headings : AreHeadings group.headings
  pub units : AreUnder group.headings group.units
  pub types : AreUnder group.headings group.types
  pub some_rows : group.rows ≢ []
  pub rows : AllByRecursion (AreUnder group.headings) group.rows

-- the names of groups, in their order
abbrev pub group_names : List Contents → List (List ℕ)
group_names groups = map (λ group. group.name) groups

-- Contents that can be written and read back: there is a group, each is well formed, and no name occurs twice.
pub record IsWellFormed (groups : List Contents) : Type 0 where
  pub some : groups ≢ []
  pub each : AllByRecursion IsWellFormedGroup groups
  pub names_once : AreDistinct (group_names groups)

-- the new bytes are the old ones and more
abbrev pub IsLonger : List ℕ → List ℕ → Type 0
IsLonger old new = (more : List ℕ) × (new ≡ old ++ more)
