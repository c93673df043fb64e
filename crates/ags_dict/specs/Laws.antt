-- What follows from the definitions alone.
use Rattle.std.specs.Prelude.{◌≡◌, ℕ, ◌+◌, List, length}
use Rattle.ags_rows.specs.declared.built_in.TheConstants.{MINI}
use Rattle.ags_rows.specs.Mini.{mini_rows}
use Rattle.ags_dict.specs.Entries.{Entries}
use Rattle.ags_dict.specs.Mini.{mini_entries}
use Rattle.ags_dict.specs.Reading.{IsDictionary, LacksDict, LacksHeading}

-- Bytes are the dictionary of one list of entries at most, and then neither lack DICT nor a heading of it; and they do
-- not lack both.
abbrev pub OneDictionary : Type 0
OneDictionary =
    ((bytes : List ℕ) (entries others : Entries) → IsDictionary bytes entries → IsDictionary bytes others
    → entries ≡ others)
    × ((bytes : List ℕ) (entries : Entries) → IsDictionary bytes entries → ¬ (LacksDict bytes))
    × ((bytes : List ℕ) (entries : Entries) → IsDictionary bytes entries → ¬ (LacksHeading bytes))
    × ((bytes : List ℕ) → LacksDict bytes → ¬ (LacksHeading bytes))

-- MINI is the dictionary of the entries that its table makes: each row makes one, and none restates another.
abbrev pub MiniIsDictionary : Type 0
MiniIsDictionary =
    IsDictionary MINI.now mini_entries × (length mini_entries.groups + length mini_entries.headings ≡ length mini_rows)
