-- Texts that are written a part at a time, for those who write a file group by group and row by row.
use Rattle.std.proofs.Common.{◌≡◌, ℕ, List, [], ◌∷◌, ◌++◌, ◌+◌, ◌<◌, length, get_or, take, map, sym, ap, ◌∙◌, append_assoc}
use Rattle.std.proofs.lemmas.Grind.{flat_map-append}
use Rattle.std.proofs.lemmas.List.{append-nil, map-append, take_more}
use Rattle.ags_rows.specs.declared.rows.Descriptor.TheVariants as kinds
use Rattle.ags_rows.specs.declared.rows.Row.{Row}
use Rattle.ags_rows.specs.Lines.{TextLine, line_bytes}
use Rattle.ags_rows.specs.Contents.{Contents, fields_of}
use Rattle.ags_rows.specs.Writing.{written_row, contents_from, group_lines, text_of}

-- the text of lines, and of more lines
pub text_append : (front back : List TextLine) → text_of (front ++ back) ≡ text_of front ++ text_of back
text_append front back = flat_map-append line_bytes front back

pub text_one : (line : TextLine) → text_of (line ∷ []) ≡ line_bytes line
text_one line = append-nil (line_bytes line)

pub text_push : (front : List TextLine) (line : TextLine) → text_of (front ++ line ∷ []) ≡ text_of front ++ line_bytes line
text_push front line = text_append front (line ∷ []) ∙ ap (λ (text : List ℕ). text_of front ++ text) (text_one line)

-- the group with these DATA rows
abbrev pub with_rows : Contents → List (List (List ℕ)) → Contents
with_rows group rows = contents_from group.name group.headings group.units group.types rows

-- one DATA row more
pub group_push : (group : Contents) (rows : List (List (List ℕ))) (cells : List (List ℕ))
    → text_of (group_lines (with_rows group (rows ++ cells ∷ []))) ≡ text_of (group_lines (with_rows group rows)) ++ line_bytes (written_row kinds.Data cells)
group_push group rows cells =
    let header = group_lines (with_rows group []) in
    let front = map (written_row kinds.Data) rows in
    let line = written_row kinds.Data cells in
    ap (λ (lines : List TextLine). text_of (header ++ lines)) (map-append (written_row kinds.Data) rows (cells ∷ []))
    ∙ ap text_of (sym (append_assoc header front (line ∷ [])))
    ∙ text_push (header ++ front) line

-- the text of a group so far, and its next row
pub group_more : (old out new : List ℕ) (group : Contents) (rows : List Row) (i : ℕ) (d : Row) → i < length rows
    → out ≡ old ++ text_of (group_lines (with_rows group (map fields_of (take i rows)))) → new ≡ out ++ line_bytes (written_row kinds.Data (get_or rows i d).cells)
    → new ≡ old ++ text_of (group_lines (with_rows group (map fields_of (take (i + 1) rows))))
group_more old out new group rows i d lt before next =
    let text = λ (some : List Row). text_of (group_lines (with_rows group (map fields_of some))) in
    let line = line_bytes (written_row kinds.Data (get_or rows i d).cells) in
    let more : text (take (i + 1) rows) ≡ text (take i rows) ++ line =
    ap text (take_more rows i d lt)
    ∙ ap (λ (cells : List (List (List ℕ))). text_of (group_lines (with_rows group cells))) (map-append fields_of (take i rows) (get_or rows i d ∷ []))
    ∙ group_push group (map fields_of (take i rows)) (get_or rows i d).cells in
    next ∙ ap (λ (front : List ℕ). front ++ line) before ∙ append_assoc old (text (take i rows)) line ∙ ap (λ (back : List ℕ). old ++ back) (sym more)
