-- The DATA rows of a file, each with what its group says of it.
use Rattle.std.specs.Prelude.{◌≡◌, ◌+◌, ◌↔◌, ℕ, List, map, flat_map, length, take, Contains}
use Rattle.std.specs.List.Sorted.{IsStrictlyIncreasing}
use Rattle.ags_rows.specs.Collecting.{At}
use Rattle.ags_rows.specs.Contents.{Contents, under}
use Rattle.ags_dict.specs.Entries.{Entries}

-- A data file: what its groups hold, and the entries of the dictionary that it is read under.
pub record DataFile : Type 0 where
  pub contents : List Contents
  pub entries : Entries

-- A DATA row: the name, the HEADING row and the TYPE row of its group, and its fields.
pub record DataRow : Type 0 where
  pub group : List ℕ
  pub headings : List (List ℕ)
  pub types : List (List ℕ)
  pub fields : List (List ℕ)

-- a row of a group, from its fields
abbrev pub row_in : Contents → List (List ℕ) → DataRow
row_in group fields = record { group = group.name; headings = group.headings; types = group.types; fields = fields }

-- the DATA rows of one group, in their order
abbrev pub data_rows_of_group : Contents → List DataRow
data_rows_of_group group = map (row_in group) group.rows

-- the DATA rows of a file, numbered from 0 over the whole file
abbrev pub data_rows : List Contents → List DataRow
data_rows contents = flat_map data_rows_of_group contents

-- how many DATA rows are in the groups before this place
abbrev pub rows_before : List Contents → ℕ → ℕ
rows_before file place = length (data_rows (take place file))

-- Row n of a file is the row at a place of one of its groups.
pub record IsRowOfGroup (file : List Contents) (n : ℕ) (row : DataRow) : Type 0 where
  pub group_place : ℕ
  pub group : Contents
  pub of_file : At file group_place group
  pub place : ℕ
  pub fields : List (List ℕ)
  pub of_group : At group.rows place fields
  pub number : n ≡ rows_before file group_place + place
  pub same : row_in group fields ≡ row

-- what is in the row under a heading; null where the heading is absent
abbrev pub entry_of : DataRow → List ℕ → List ℕ
entry_of row heading = under row.headings row.fields heading

-- rows n and m of a file are rows of which this holds
abbrev pub RowsRelate : List DataRow → (DataRow → DataRow → Type 0) → ℕ → ℕ → Type 0
RowsRelate rows Related n m = (r : DataRow) × (s : DataRow) × At rows n r × At rows m s × Related r s

-- the list has exactly the numbers of which this holds, rising, each once
pub record ListsRows (numbers : List ℕ) (IsOne : ℕ → Type 0) : Type 0 where
  pub rising : IsStrictlyIncreasing numbers
  pub exact : (n : ℕ) → Contains numbers n ↔ IsOne n
