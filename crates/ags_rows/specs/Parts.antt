-- A text cut at a separator: a heading's status at `+`, a record link at the delimiter and the concatenator, an
-- abbreviation at the concatenator. Nothing is trimmed, and the empty text is one empty part.
use Rattle.std.specs.Prelude.{ℕ, List, Bool, ◌==◌}
use Rattle.std.specs.List.{list_any, slice_split}
use Rattle.std.specs.Str.{bytes_eq}

-- the parts of a text between its separators
abbrev pub parts_at : ℕ → List ℕ → List (List ℕ)
parts_at separator text = slice_split (λ b. b == separator) text

-- whether the text has this part
abbrev pub has_part : ℕ → List ℕ → List ℕ → Bool
has_part separator part text = list_any (λ p. bytes_eq p part) (parts_at separator text)
