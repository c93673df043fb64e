-- The entries of MINI, the dictionary of this project.
use Rattle.std.specs.Prelude.{flat_map}
use Rattle.ags_rows.specs.Mini.{mini_contents}
use Rattle.ags_dict.specs.Entries.{Entries, group_entries_in, heading_entries_in}

-- each row of its table as an entry
abbrev pub mini_entries : Entries
mini_entries = record {
  groups = flat_map group_entries_in mini_contents;
  headings = flat_map heading_entries_in mini_contents;
}
