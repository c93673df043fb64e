-- A file keeps no more rows than it has bytes.
use Rattle.std.proofs.Common.{◌≡◌, ◌≢◌, ◌≤◌, ◌<◌, ◌+◌, ℕ, Bool, true, false, List, [], ◌∷◌, ◌++◌, drop, length, map, if◌then◌else◌, inl, inr, refl, ap, arith}
use Rattle.std.specs.Prelude.{nat_eq}
use Rattle.std.specs.List.{AllByRecursion, flat_map, starts_with}
use Rattle.std.proofs.lemmas.List.{length-append, length-drop, length-map}
use Rattle.ags_check.specs.Findings.{CheckedFile, IsClean}
use Rattle.ags_rows.specs.Contents.{fields_of, group_contents}
use Rattle.ags_rows.specs.declared.rows.Descriptor.TheVariants as kinds
use Rattle.ags_rows.specs.declared.rows.Group.{Group}
use Rattle.ags_rows.specs.Groups.{as_file_row, rows_of}
use Rattle.ags_rows.specs.Lines.{IsLine, TextLine, after_byte_order_mark, line_bytes}
use Rattle.ags_rows.specs.Rows.{RowsFrom}
use Rattle.reg_store.specs.Fit.{group_rows, header_rows, kept_row, kept_rows}

some_bytes : (bytes : List ℕ) → bytes ≢ [] → 0 < length bytes
some_bytes [] some = absurd (some refl)
some_bytes (b ∷ bytes) some = omega arith

lines_few : (lines : List TextLine) → AllByRecursion IsLine lines → length lines ≤ length (flat_map line_bytes lines)
lines_few [] each = omega arith
lines_few (line ∷ lines) each = omega (arith, length-append (line_bytes line) (flat_map line_bytes lines), some_bytes (line_bytes line) each.0.0, lines_few lines each.1)

rows_few : (number : ℕ) (lines : List TextLine) (rows : _) → RowsFrom number lines rows → length rows ≤ length lines
rows_few number [] rows none = omega (arith, ap length none)
rows_few number (line ∷ lines) rows (inl row) = omega (arith, ap length row.2, rows_few (number + 1) lines row.1 row.5)
rows_few number (line ∷ lines) rows (inr other) = omega (arith, rows_few (number + 1) lines rows other.1)

groups_few : (groups : List Group) → length (kept_rows groups) ≡ length (flat_map rows_of groups)
groups_few [] = refl
groups_few (group ∷ groups) =
    let fields = map fields_of group.rows in
    omega (
      arith,
      length-append (group_rows (group_contents group)) (kept_rows groups),
      length-append (header_rows (group_contents group)) (map (kept_row group.name kinds.Data) fields),
      length-map fields (kept_row group.name kinds.Data),
      length-map group.rows fields_of,
      length-append (rows_of group) (flat_map rows_of groups),
      length-map group.rows as_file_row,
      groups_few groups,
    )

unmarked_few : (bytes : List ℕ) → length (after_byte_order_mark bytes) ≤ length bytes
unmarked_few bytes = go (starts_with nat_eq bytes (0xEF ∷ 0xBB ∷ 0xBF ∷ []))
  where
    go : (b : Bool) → length (if b then drop 3 bytes else bytes) ≤ length bytes
    go true = omega (arith, length-drop 3 bytes)
    go false = omega arith

pub kept_few : (file : CheckedFile) → IsClean file → length (kept_rows file.groups) ≤ length file.bytes
kept_few file clean =
    let read = clean.groups in
    omega (arith, groups_few file.groups, ap length read.3, rows_few 1 read.0.lines read.0.rows read.1.rows, lines_few read.0.lines read.1.lines.each, ap length read.1.lines.joined, unmarked_few file.bytes)
