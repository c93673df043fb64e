-- The entries of a dictionary (the group DICT, Rules 7, 9, 10 and 18), and what is read from them.
-- All of it speaks of a file's contents, not of its lines. A heading that DICT does not have reads as null.
use Rattle.std.specs.Prelude.{◌≡◌, ℕ, List, [], ◌∷◌, ◌++◌, map, flat_map, codes, Bool, not, ◌&&◌, Option, Some, None, if◌then◌else◌}
use Rattle.std.specs.List.{filter, find, list_any, list_all}
use Rattle.std.specs.Option.{option_and_then}
use Rattle.std.specs.Str.{bytes_eq}
use Rattle.ags_rows.specs.Contents.{Contents, under}
use Rattle.ags_text.specs.Bytes.{plus_sign}
use Rattle.ags_rows.specs.Parts.{has_part}
use Rattle.ags_dict.specs.declared.entries.GroupEntry.{GroupEntry}
use Rattle.ags_dict.specs.declared.entries.HeadingEntry.{HeadingEntry}

-- The entries of a dictionary, each list in its order: for groups, and for headings of groups.
pub record Entries : Type 0 where
  pub groups : List GroupEntry
  pub headings : List HeadingEntry

-- ---- what the rows of DICT say

-- a row of DICT_TYPE `GROUP` makes an entry for a group, with its parent
abbrev pub group_entries : List (List ℕ) → List (List ℕ) → List GroupEntry
group_entries headings fields =
    let entry = under headings fields in
    if bytes_eq (entry (codes "DICT_TYPE")) (codes "GROUP")
    then record { group = entry (codes "DICT_GRP"); parent = entry (codes "DICT_PGRP") } ∷ []
    else []

-- a row of DICT_TYPE `HEADING` makes an entry for a heading of a group, with its status
abbrev pub heading_entries : List (List ℕ) → List (List ℕ) → List HeadingEntry
heading_entries headings fields =
    let entry = under headings fields in
    if bytes_eq (entry (codes "DICT_TYPE")) (codes "HEADING")
    then record {
      group = entry (codes "DICT_GRP");
      heading = entry (codes "DICT_HDNG");
      status = entry (codes "DICT_STAT");
    } ∷ []
    else []

abbrev pub is_dict : Contents → Bool
is_dict group = bytes_eq group.name (codes "DICT")

abbrev pub group_entries_in : Contents → List GroupEntry
group_entries_in group = if is_dict group then flat_map (group_entries group.headings) group.rows else []

abbrev pub heading_entries_in : Contents → List HeadingEntry
heading_entries_in group = if is_dict group then flat_map (heading_entries group.headings) group.rows else []

-- ---- an earlier entry is kept, a later one ignored

abbrev pub same_group : GroupEntry → GroupEntry → Bool
same_group new old = bytes_eq old.group new.group

abbrev pub same_heading : HeadingEntry → HeadingEntry → Bool
same_heading new old = bytes_eq old.group new.group && bytes_eq old.heading new.heading

-- of each entry that is the same as none before, the first
abbrev pub first_of_each : {X : Type 0} → (X → X → Bool) → List X → List X → List X
first_of_each same before [] = []
first_of_each same before (x ∷ xs) =
    if list_any (same x) before then first_of_each same before xs else x ∷ first_of_each same (before ++ x ∷ []) xs

-- the old entries, then the first of each new one
abbrev pub with_new : {X : Type 0} → (X → X → Bool) → List X → List X → List X
with_new same old new = old ++ first_of_each same old new

-- the new dictionary has the old entries for groups, then the first of each new one of the list
abbrev pub AddsNewGroups : List GroupEntry → Entries → Entries → Type 0
AddsNewGroups entries old new = new.groups ≡ with_new same_group old.groups entries

-- the same of the entries for headings of groups
abbrev pub AddsNewHeadings : List HeadingEntry → Entries → Entries → Type 0
AddsNewHeadings entries old new = new.headings ≡ with_new same_heading old.headings entries

-- the extended dictionary: entries, then the new ones of a file's own DICT
abbrev pub extended : Entries → List Contents → Entries
extended given contents = record {
  groups = with_new same_group given.groups (flat_map group_entries_in contents);
  headings = with_new same_heading given.headings (flat_map heading_entries_in contents);
}

-- the entries of the dictionary that a file is: those of its DICT alone
abbrev pub entries_of_file : List Contents → Entries
entries_of_file contents = extended (record { groups = []; headings = [] }) contents

-- ---- what a dictionary has to have

abbrev pub has_dict : List Contents → Bool
has_dict contents = list_any is_dict contents

-- the headings without which a file is no dictionary
abbrev pub dict_headings : List (List ℕ)
dict_headings = codes "DICT_TYPE" ∷ codes "DICT_GRP" ∷ codes "DICT_HDNG" ∷ codes "DICT_STAT" ∷ codes "DICT_PGRP" ∷ []

-- whether a HEADING row has all of them
abbrev pub has_dict_headings : List (List ℕ) → Bool
has_dict_headings headings = list_all (λ wanted. list_any (λ h. bytes_eq h wanted) headings) dict_headings

abbrev pub is_incomplete : Contents → Bool
is_incomplete group = is_dict group && not (has_dict_headings group.headings)

-- whether DICT lacks one
abbrev pub lacks_heading : List Contents → Bool
lacks_heading contents = list_any is_incomplete contents

-- ---- look-ups in the entries

-- Rule 7: the group's headings in the order of the dictionary
abbrev pub order_of : Entries → List ℕ → List (List ℕ)
order_of entries group = map (λ e. e.heading) (filter (λ e. bytes_eq e.group group) entries.headings)

-- the group's headings whose status, cut at `+`, has this word, in the order of the dictionary
abbrev pub of_status : Entries → List ℕ → List ℕ → List (List ℕ)
of_status entries group word =
    map (λ e. e.heading) (filter (λ e. bytes_eq e.group group && has_part plus_sign word e.status) entries.headings)

-- Rule 10a: the group's KEY headings, in that order
abbrev pub keys_of : Entries → List ℕ → List (List ℕ)
keys_of entries group = of_status entries group (codes "KEY")

-- Rule 10b: the group's REQUIRED headings, in that order
abbrev pub required_of : Entries → List ℕ → List (List ℕ)
required_of entries group = of_status entries group (codes "REQUIRED")

-- Rule 9: the group has an entry
abbrev pub has_group : Entries → List ℕ → Bool
has_group entries group = list_any (λ e. bytes_eq e.group group) entries.groups

-- Rule 19b: another group has a heading of this name
abbrev pub elsewhere : Entries → List ℕ → List ℕ → Bool
elsewhere entries group heading =
    list_any (λ e. bytes_eq e.heading heading && not (bytes_eq e.group group)) entries.headings

-- the groups that have no parent, whatever their entries say
abbrev pub has_no_parent : List ℕ → Bool
has_no_parent group =
    list_any (bytes_eq group)
    (codes "PROJ" ∷ codes "TRAN" ∷ codes "ABBR" ∷ codes "DICT" ∷ codes "UNIT" ∷ codes "TYPE" ∷ codes "FILE" ∷ [])

-- the parent that an entry names: none where it is null or `-`
abbrev pub parent_in : GroupEntry → Option (List ℕ)
parent_in entry = if list_any (bytes_eq entry.parent) ([] ∷ codes "-" ∷ []) then None else Some entry.parent

-- Rule 10c: the parent that the group's entry names: none where there is no entry, and for the groups above
abbrev pub parent_of : Entries → List ℕ → Option (List ℕ)
parent_of entries group =
    if has_no_parent group
    then None
    else option_and_then parent_in (find (λ e. bytes_eq e.group group) entries.groups)
