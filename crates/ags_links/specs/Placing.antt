-- The rows of a file as the index keeps them.
use Rattle.std.specs.Prelude.{◌≡◌, ◌≢◌, ◌<◌, ◌↔◌, ◌++◌, ℕ, List, [], Option, Contains, map, length, slice_index_or}
use Rattle.std.specs.Borrow.{Bor}
use Rattle.ags_rows.specs.declared.rows.Group.{Group}
use Rattle.ags_rows.specs.Contents.{group_contents, fields_of, field_at}
use Rattle.ags_rows.specs.Parts.{parts_at}
use Rattle.ags_links.specs.DataRows.{DataRow, row_in, data_rows_of_group}
use Rattle.ags_links.specs.declared.placed.PlacedRow.{PlacedRow}

-- the DATA row that is kept
abbrev pub row_of : PlacedRow → DataRow
row_of kept = row_in (group_contents kept.group.now) (fields_of kept.row.now)

-- the row's group is at its place in the file
abbrev pub IsPlaced : List Group → PlacedRow → Type 0
IsPlaced groups kept = (kept.place < length groups) × (slice_index_or groups kept.place kept.group.now ≡ kept.group.now)

-- the new rows are the old ones, then the DATA rows of the group at this place of the file
abbrev pub AddsGroupRows : List Group → ℕ → List PlacedRow → List PlacedRow → Type 0
AddsGroupRows groups place old new = (d : Group) → map row_of new
    ≡ map row_of old ++ data_rows_of_group (group_contents (slice_index_or groups place d))

-- what is in the row at the places
abbrev pub fields_at : List (Option ℕ) → PlacedRow → List (List ℕ)
fields_at places row = map (field_at (row_of row).fields) places

-- the two rows have equal entries, each at its own places
abbrev pub HaveEqualEntries : PlacedRow → List (Option ℕ) → PlacedRow → List (Option ℕ) → Type 0
HaveEqualEntries row places other other_places = fields_at places row ≡ fields_at other_places other

-- the list has, in whatever order, exactly the texts of which this holds
abbrev pub ListsTexts : List (Bor (List ℕ)) → (List ℕ → Type 0) → Type 0
ListsTexts texts IsOne = (text : List ℕ) → Contains (map (λ t. t.now) texts) text ↔ IsOne text

-- a part of what is in the row at one of the places; a null has none
abbrev pub IsPartAmong : ℕ → DataRow → List (Option ℕ) → List ℕ → Type 0
IsPartAmong separator row places part =
    (place : Option ℕ) × Contains places place × (field_at row.fields place ≢ [])
    × Contains (parts_at separator (field_at row.fields place)) part
