-- The groups of a file (Rule 2): a GROUP row and all rows before the next one.
use Rattle.std.specs.Prelude.{◌≡◌, ℕ, List, [], ◌∷◌, map, flat_map, length}
use Rattle.ags_rows.specs.declared.rows.Descriptor.TheVariants as kinds
use Rattle.ags_rows.specs.declared.rows.FileRow.{FileRow}
use Rattle.ags_rows.specs.declared.rows.Row.{Row}
use Rattle.ags_rows.specs.declared.rows.Group.{Group}

-- a DATA row among rows of all kinds
abbrev pub as_file_row : Row → FileRow
as_file_row row = record { line = row.line; descriptor = kinds.Data; items = row.cells }

-- the rows of a group: one of each kind, and its DATA rows
abbrev pub rows_of : Group → List FileRow
rows_of group =
    record { line = group.line; descriptor = kinds.Group; items = group.name ∷ [] }
    ∷ record { line = group.heading_line; descriptor = kinds.Heading; items = group.headings }
    ∷ record { line = group.unit_line; descriptor = kinds.Unit; items = group.units }
    ∷ record { line = group.type_line; descriptor = kinds.Type; items = group.types }
    ∷ map as_file_row group.rows

-- The rows are cut into these groups: the groups' rows, one group after the other, are the rows.
abbrev pub Groups : List FileRow → List Group → Type 0
Groups rows groups = flat_map rows_of groups ≡ rows

-- how many DATA rows the groups have in all
abbrev pub row_count : List Group → ℕ
row_count groups = length (flat_map (λ g. g.rows) groups)
