-- The rows of a file by their texts: those of kind DATA, and how many there are.
use Rattle.std.proofs.Common.{◌≡◌, ℕ, ◌+◌, ◌≤◌, List, [], ◌∷◌, ◌++◌, length, map, filter, flat_map, refl, sym, ap, ◌∙◌, arith}
use Rattle.std.proofs.lemmas.List.{append-nil, length-append, length-map}
use Rattle.std.proofs.lemmas.Simd.{map-map}
use Rattle.std.proofs.lemmas.List.Elements.{filter-append}
use Rattle.ags_rows.specs.declared.rows.Descriptor.TheVariants as kinds
use Rattle.ags_rows.specs.declared.rows.Group.{Group}
use Rattle.ags_rows.specs.Contents.{Contents, fields_of, group_contents, contents_of}
use Rattle.ags_rows.specs.Groups.{as_file_row, rows_of, row_count}
use Rattle.ags_rows.specs.Findings.{LooseGroups}
use Rattle.ags_rows.specs.RowTexts.{each_row, each_data_row, row_text, row_texts, is_data_text}
use Rattle.ags_rows.specs.Writing.{written_row, group_lines}
use Rattle.ags_rows.specs.Laws.{RowsAreTheirTexts, RowsWithinBytes}
use Rattle.ags_rows.proofs.FewRows.{rows_within}
use Rattle.ags_rows.proofs.Loosely.{loose_groups}
use Rattle.ags_rows.proofs.Texts.{with_rows}

-- ---- the lines that are written

data_texts : (name : List ℕ) (rows : List (List (List ℕ))) → map (λ line. line.content) (map (written_row kinds.Data) rows) ≡ map (λ row. row.text) (map (row_text name kinds.Data) rows ++ [])
data_texts name rows = simp (append-nil, map-map)

lines_are_texts : (group : Contents) → map (λ line. line.content) (group_lines group) ≡ map (λ row. row.text) (row_texts (group ∷ []))
lines_are_texts group =
    let header = map (λ line. line.content) (group_lines (with_rows group [])) in
    ap (λ more. header ++ more) (data_texts group.name group.rows)

-- ---- the rows of kind DATA

data_kept : (name : List ℕ) (rows : List (List (List ℕ))) → filter is_data_text (map (row_text name kinds.Data) rows) ≡ map (row_text name kinds.Data) rows
data_kept name [] = refl
data_kept name (row ∷ rows) = ap (λ more. row_text name kinds.Data row ∷ more) (data_kept name rows)

pub data_texts_are : (contents : List Contents) → filter is_data_text (row_texts contents) ≡ each_data_row (λ group. row_text group.name kinds.Data) contents
data_texts_are [] = refl
data_texts_are (group ∷ contents) =
    filter-append is_data_text (each_row (row_text group.name) group) (row_texts contents)
    ∙ ap (λ front. front ++ filter is_data_text (row_texts contents)) (data_kept group.name group.rows)
    ∙ ap (λ back. map (row_text group.name kinds.Data) group.rows ++ back) (data_texts_are contents)

-- one for each DATA row of the groups
pub each_data_row_counted : {X : Type 0} (made : Contents → List (List ℕ) → X) (groups : List Group) → length (each_data_row made (contents_of groups)) ≡ row_count groups
each_data_row_counted made [] = refl
each_data_row_counted made (group ∷ groups) =
    let fields = map fields_of group.rows in
    length-append (map (made (group_contents group)) fields) (each_data_row made (contents_of groups))
    ∙ ap (λ n. n + length (each_data_row made (contents_of groups))) (length-map fields (made (group_contents group)) ∙ length-map group.rows fields_of)
    ∙ ap (λ n. length group.rows + n) (each_data_row_counted made groups)
    ∙ sym (length-append group.rows (flat_map (λ (g : Group). g.rows) groups))

pub texts_of_rows : RowsAreTheirTexts
texts_of_rows = (lines_are_texts, data_texts_are, λ groups. ap length (data_texts_are (contents_of groups)) ∙ each_data_row_counted (λ group. row_text group.name kinds.Data) groups)

-- ---- how many there are

-- as many texts as rows
texts_counted : (groups : List Group) → length (row_texts (contents_of groups)) ≡ length (flat_map rows_of groups)
texts_counted [] = refl
texts_counted (group ∷ groups) =
    let fields = map fields_of group.rows in
    omega (
      arith,
      length-append (each_row (row_text group.name) (group_contents group)) (row_texts (contents_of groups)),
      length-append (rows_of group) (flat_map rows_of groups),
      length-map fields (row_text group.name kinds.Data),
      length-map group.rows fields_of,
      length-map group.rows as_file_row,
      texts_counted groups,
    )

loose_within : (bytes : List ℕ) (groups : List Group) → LooseGroups bytes groups → length (row_texts (contents_of groups)) ≤ length bytes
loose_within bytes groups h =
    omega (arith, texts_counted groups, ap length h.3, rows_within bytes h.0.lines h.0.rows (length bytes) h.1.lines h.1.rows (omega arith))

pub texts_within : RowsWithinBytes
texts_within = (λ bytes groups h. loose_within bytes groups (loose_groups bytes groups h), loose_within)
