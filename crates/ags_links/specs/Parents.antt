-- The parent rows of a DATA row (Rule 10c).
use Rattle.std.specs.Prelude.{◌≡◌, ℕ, List, Some, Contains}
use Rattle.ags_dict.specs.Entries.{Entries, keys_of, parent_of}
use Rattle.ags_links.specs.DataRows.{DataRow, entry_of}

-- s is a row of the parent group of r, and both have equal entries under each link heading:
-- a KEY heading of the parent group that is in r's HEADING row
abbrev pub IsParentRow : Entries → DataRow → DataRow → Type 0
IsParentRow entries r s = (parent_of entries r.group ≡ Some s.group)
    × ((heading : List ℕ) → Contains (keys_of entries s.group) heading × Contains r.headings heading
    → entry_of r heading ≡ entry_of s heading)
