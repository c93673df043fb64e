-- Record links (Rule 11): what a cell of type RL names.
use Rattle.std.specs.Prelude.{◌≡◌, ◌==◌, ℕ, List, [], ◌∷◌, Option, length, Contains, codes, slice_index, slice_index_or, if◌then◌else◌}
use Rattle.std.specs.List.{find}
use Rattle.std.specs.Option.{option_map_or}
use Rattle.std.specs.Str.{bytes_eq}
use Rattle.ags_rows.specs.Contents.{Contents, under}
use Rattle.ags_text.specs.Bytes.{plus_sign}
use Rattle.ags_dict.specs.Entries.{Entries}
use Rattle.ags_rows.specs.Parts.{parts_at}
use Rattle.ags_links.specs.declared.separators.Separators.{Separators}
use Rattle.ags_rows.specs.Collecting.{At}
use Rattle.ags_links.specs.DataRows.{DataRow, entry_of}
use Rattle.ags_links.specs.Keys.{key_of}

-- `|`, which separates pieces where TRAN does not say otherwise
abbrev pub bar : ℕ
bar = 124

-- a separator's one character, where the entry is exactly one character
abbrev pub one_character : List ℕ → ℕ → ℕ
one_character entry usual = if length entry == 1 then slice_index entry 0 else usual

-- what is under a heading in the first DATA row of TRAN; null where TRAN or the row is absent
abbrev pub first_entry : Option Contents → List ℕ → List ℕ
first_entry tran heading =
    option_map_or (λ group. under group.headings (slice_index_or group.rows 0 []) heading) tran []

abbrev pub tran_of : List Contents → Option Contents
tran_of contents = find (λ group. bytes_eq group.name (codes "TRAN")) contents

-- TRAN_DLIM and TRAN_RCON of TRAN's first DATA row where they are one character, else `|` and `+`
abbrev pub separators_of : List Contents → Separators
separators_of contents =
    let entry = first_entry (tran_of contents) in
    record {
      delimiter = one_character (entry (codes "TRAN_DLIM")) bar;
      concatenator = one_character (entry (codes "TRAN_RCON")) plus_sign;
    }

-- a part, cut at the delimiter, is the group of s and then all entries of its key, in dictionary order
abbrev pub Names : Entries → ℕ → List ℕ → DataRow → Type 0
Names entries delimiter part s = parts_at delimiter part ≡ s.group ∷ key_of entries s

-- a part of what is in the row under a heading, read as a record link
abbrev pub IsPartOf : Separators → DataRow → List ℕ → List ℕ → Type 0
IsPartOf separators row heading part = Contains (parts_at separators.concatenator (entry_of row heading)) part

-- the part names row n of the file
abbrev pub NamesAt : Entries → Separators → List DataRow → List ℕ → ℕ → Type 0
NamesAt entries separators rows part n = (s : DataRow) × At rows n s × Names entries separators.delimiter part s

-- some part of what is in the row under the heading names no row
abbrev pub IsBroken : Entries → Separators → List DataRow → DataRow → List ℕ → Type 0
IsBroken entries separators rows row heading =
    (part : List ℕ) × IsPartOf separators row heading part × ((n : ℕ) → ¬ (NamesAt entries separators rows part n))
