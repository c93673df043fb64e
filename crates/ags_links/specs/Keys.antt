-- The key of a DATA row (Rule 10a).
use Rattle.std.specs.Prelude.{◌≡◌, ◌<◌, ◌≤◌, ℕ, List, length, map, slice_index_or}
use Rattle.ags_dict.specs.Entries.{Entries, keys_of}
use Rattle.ags_links.specs.DataRows.{DataRow, entry_of, RowsRelate}

-- the row's entries under the KEY headings of its group, in dictionary order
abbrev pub key_of : Entries → DataRow → List (List ℕ)
key_of entries row = map (entry_of row) (keys_of entries row.group)

-- s is in the group of r and has an equal key
abbrev pub HasKeyOf : Entries → DataRow → DataRow → Type 0
HasKeyOf entries r s = (s.group ≡ r.group) × (key_of entries s ≡ key_of entries r)

-- row m is the first row of row n's group with an equal key
abbrev pub IsFirstOfKey : List DataRow → Entries → ℕ → ℕ → Type 0
IsFirstOfKey rows entries n m =
    RowsRelate rows (HasKeyOf entries) n m × ((k : ℕ) → RowsRelate rows (HasKeyOf entries) n k → m ≤ k)

-- for each row, at its place, the first row of its group with an equal key
abbrev pub AreFirstsOfKeys : List DataRow → Entries → List ℕ → Type 0
AreFirstsOfKeys rows entries firsts =
    (length firsts ≡ length rows) × ((n : ℕ) → n < length rows
    → IsFirstOfKey rows entries n (slice_index_or firsts n 0))
