-- The row of PROJ among the rows that are kept of a file, and the rows that it reaches.
use Rattle.std.specs.Prelude.{◌≡◌, ◌↔◌, ℕ, ◌+◌, ◌==◌, List, [], ◌∷◌, Contains, slice_get}
use Rattle.std.specs.Prelude.{Option, Some, None, if◌then◌else◌, codes}
use Rattle.std.specs.Str.{bytes_eq}
use Rattle.ags_rows.specs.Spelling.{line_of}
use Rattle.ags_links.specs.Walks.{HasStep, IsReached}
use Rattle.reg_store.specs.declared.keep.HeadedRow.{HeadedRow}
use Rattle.reg_store.specs.declared.keep.KeptRow.{KeptRow}

-- The DATA rows of these rows, in their order, each with the last GROUP row and the last HEADING row before it, where
-- these are the last before them all.
abbrev pub headed_rows : List ℕ → List ℕ → List KeptRow → List HeadedRow
headed_rows group headings [] = []
headed_rows group headings (row ∷ rows) =
    if row.kind == 0 then headed_rows row.line headings rows
    else (if row.kind == 1 then headed_rows group row.line rows
    else (if row.kind == 4
    then record { group = group; headings = headings; line = row.line } ∷ headed_rows group headings rows
    else headed_rows group headings rows))

-- the GROUP row of PROJ
unfoldable pub project_group : List ℕ
project_group = line_of (codes "GROUP" ∷ codes "PROJ" ∷ [])

-- the first row under that GROUP row, with its number, where the first of the rows has this number
abbrev pub project_from : ℕ → List HeadedRow → Option (ℕ × HeadedRow)
project_from number [] = None
project_from number (row ∷ rows) =
    if bytes_eq row.group project_group then Some (number, row) else project_from (number + 1) rows

-- The row of PROJ of a file, with its number among the DATA rows, from the rows that are kept of it: the first DATA row of
-- PROJ, which is the only one where the file has no finding (Rule 13).
abbrev pub project_of : List KeptRow → Option (ℕ × HeadedRow)
project_of rows = project_from 0 (headed_rows [] [] rows)

-- the row of PROJ has this number
abbrev pub IsProjectNumber : List KeptRow → ℕ → Type 0
IsProjectNumber rows n = (row : HeadedRow) × (project_of rows ≡ Some (n, row))

-- A row that the row of PROJ reaches, itself included, among the rows of a file with these steps.
abbrev pub IsProjectRow : List KeptRow → List (ℕ × ℕ) → HeadedRow → Type 0
IsProjectRow rows steps row = (m : ℕ) × IsReached (HasStep steps) (IsProjectNumber rows) m
    × (slice_get (headed_rows [] [] rows) m ≡ Some row)

-- These are all of them.
abbrev pub AreProjectRows : List KeptRow → List (ℕ × ℕ) → List HeadedRow → Type 0
AreProjectRows rows steps found = (row : HeadedRow) → Contains found row ↔ IsProjectRow rows steps row
