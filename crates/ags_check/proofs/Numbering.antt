-- The numbers of the DATA rows of groups that have lines.
use Rattle.std.proofs.Common.{◌≡◌, ℕ, suc, ◌+◌, ◌≤◌, List, length, map, ap, ◌∙◌, arith}
use Rattle.std.proofs.lemmas.List.{length-map}
use Rattle.ags_rows.specs.declared.rows.Group.{Group}
use Rattle.ags_rows.specs.Collecting.{At}
use Rattle.ags_rows.specs.Contents.{group_contents, contents_of, fields_of}
use Rattle.ags_links.specs.DataRows.{data_rows, rows_before}
use Rattle.ags_links.proofs.Lemmas as numbers
use Rattle.ags_check.specs.Columns.{HaveRowsOf}
use Rattle.ags_rows.proofs.Lemmas.{at_map}

pub group_rows : (groups : List Group) (i : ℕ) (group : Group) → At groups i group → HaveRowsOf (data_rows (contents_of groups)) (rows_before (contents_of groups) i) group
group_rows groups i group at = λ place row there.
    numbers.row_at_place (contents_of groups) i (group_contents group) (at_map group_contents groups i group at) place (fields_of row)
    (at_map fields_of group.rows place row there)

pub group_few : (groups : List Group) (i : ℕ) (group : Group) → At groups i group → rows_before (contents_of groups) i + length group.rows ≤ length (data_rows (contents_of groups))
group_few groups i group at = omega (arith, numbers.before_few (contents_of groups) i (group_contents group) (at_map group_contents groups i group at), length-map group.rows fields_of)

pub group_next : (groups : List Group) (i : ℕ) (group : Group) → At groups i group → rows_before (contents_of groups) (i + 1) ≡ rows_before (contents_of groups) i + length group.rows
group_next groups i group at =
    let n : i + 1 ≡ suc i = omega arith in
    let e : rows_before (contents_of groups) (suc i) ≡ rows_before (contents_of groups) i + length (map fields_of group.rows) = numbers.before_next (contents_of groups) i (group_contents group) (at_map group_contents groups i group at) in
    ap (rows_before (contents_of groups)) n ∙ e ∙ ap (λ (k : ℕ). rows_before (contents_of groups) i + k) (length-map group.rows fields_of)
