-- The rows of a file, in its order: what is made of each, and above all its text.
use Rattle.std.specs.Prelude.{ℕ, List, [], ◌∷◌, map, flat_map, Bool}
use Rattle.ags_rows.specs.declared.rows.Descriptor.{Descriptor}
use Rattle.ags_rows.specs.declared.rows.Descriptor.TheVariants as kinds
use Rattle.ags_rows.specs.Contents.{Contents}
use Rattle.ags_rows.specs.Rows.{descriptor_text, is_data}
use Rattle.ags_rows.specs.Spelling.{line_of}

-- what is made of each row of a group by its kind and its items: of the four header rows, then of the DATA rows
abbrev pub each_row : {X : Type 0} → (Descriptor → List (List ℕ) → X) → Contents → List X
each_row made group =
    made kinds.Group (group.name ∷ [])
    ∷ made kinds.Heading group.headings
    ∷ made kinds.Unit group.units
    ∷ made kinds.Type group.types
    ∷ map (made kinds.Data) group.rows

-- what is made of each DATA row of a file by its group and its fields; the DATA rows are numbered from 0 over the whole
-- file
abbrev pub each_data_row : {X : Type 0} → (Contents → List (List ℕ) → X) → List Contents → List X
each_data_row made contents = flat_map (λ group. map (made group) group.rows) contents

-- A row of a file: the name of its group, its kind, and its one spelling, without the end of its line.
pub record RowText : Type 0 where
  pub group : List ℕ
  pub kind : Descriptor
  pub text : List ℕ

abbrev pub row_text : List ℕ → Descriptor → List (List ℕ) → RowText
row_text group kind items = record { group = group; kind = kind; text = line_of (descriptor_text kind ∷ items) }

-- The rows of a file: group after group, of each its header rows and then its DATA rows.
abbrev pub row_texts : List Contents → List RowText
row_texts contents = flat_map (λ group. each_row (row_text group.name) group) contents

-- a row of kind DATA
abbrev pub is_data_text : RowText → Bool
is_data_text row = is_data row.kind
