-- A file has fewer rows than bytes, and a group no more DATA rows than rows.
use Rattle.std.proofs.Common.{◌≡◌, ℕ, ◌+◌, ◌<◌, ◌≤◌, List, [], ◌∷◌, ◌++◌, length, flat_map, ap, sym, ◌∙◌, arith, inl, inr, take, drop, get_or}
use Rattle.std.proofs.lemmas.List.{length-append, length-map, drop_more, take-append-drop}
use Rattle.std.proofs.lemmas.Grind.{flat_map-append}
use Rattle.ags_rows.specs.declared.rows.FileRow.{FileRow}
use Rattle.ags_rows.specs.declared.rows.Row.{Row}
use Rattle.ags_rows.specs.declared.rows.Group.{Group}
use Rattle.ags_rows.specs.Lines.{TextLine, Lines, after_byte_order_mark}
use Rattle.ags_rows.specs.Rows.{RowsFrom}
use Rattle.ags_rows.specs.Groups.{Groups, as_file_row, rows_of, row_count}
use Rattle.ags_rows.proofs.Files.{lines_within}

-- a line spells one row at most
pub rows_fit : (number : ℕ) (lines : List TextLine) (rows : List FileRow) → RowsFrom number lines rows → length rows ≤ length lines
rows_fit number [] rows h = omega (arith, ap length h)
rows_fit number (line ∷ lines) rows (inl h) = omega (arith, ap length h.2, rows_fit (number + 1) lines h.1 h.5)
rows_fit number (line ∷ lines) rows (inr h) = omega (arith, rows_fit (number + 1) lines rows h.1)

-- the DATA rows are some of the rows
data_rows_fit : (groups : List Group) → row_count groups ≤ length (flat_map rows_of groups)
data_rows_fit [] = omega arith
data_rows_fit (g ∷ groups) =
    omega (
      arith,
      length-append g.rows (flat_map (λ (h : Group). h.rows) groups),
      length-append (rows_of g) (flat_map rows_of groups),
      length-map g.rows as_file_row,
      data_rows_fit groups,
    )

pub counted_within : (rows : List FileRow) (groups : List Group) (most : ℕ) → Groups rows groups → length rows ≤ most → row_count groups ≤ most
counted_within rows groups most cut le = omega (arith, data_rows_fit groups, ap length cut, le)

pub rows_within : (bytes : List ℕ) (lines : List TextLine) (rows : List FileRow) (most : ℕ)
    → Lines (after_byte_order_mark bytes) lines → RowsFrom 1 lines rows → length bytes ≤ most → length rows ≤ most
rows_within bytes lines rows most cut read le = omega (arith, lines_within bytes lines most cut le, rows_fit 1 lines rows read)

-- ---- the rows of the first groups

joined : (front back : List Group) → row_count (front ++ back) ≡ row_count front + row_count back
joined front back = ap length (flat_map-append rows_in front back) ∙ length-append (flat_map rows_in front) (flat_map rows_in back) where
  rows_in : Group → List Row
  rows_in group = group.rows

-- with those of the next they are some of all rows
pub row_count_step : (groups : List Group) (i : ℕ) (g : Group) → i < length groups → g ≡ get_or groups i g → row_count (take i groups) + length g.rows ≤ row_count groups
row_count_step groups i g lt at =
    let rest = drop (i + 1) groups in
    let cut : drop i groups ≡ g ∷ rest = drop_more groups i g lt ∙ ap (λ (h : Group). h ∷ rest) (sym at) in
    omega (arith, ap row_count (take-append-drop i groups), joined (take i groups) (drop i groups), ap row_count cut, length-append g.rows (flat_map (λ (h : Group). h.rows) rest))
