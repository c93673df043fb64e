-- Which bytes are a dictionary: a file with a group DICT, and what is refused, in this order.
use Rattle.std.specs.Prelude.{◌≡◌, ◌≢◌, ℕ, List, [], true, false, Result, Ok, Err}
use Rattle.ags_rows.specs.declared.rows.Group.{Group}
use Rattle.ags_rows.specs.Contents.{Contents, contents_of}
use Rattle.ags_rows.specs.Findings.{LooseGroups, LooseFindings}
use Rattle.ags_dict.specs.declared.reading.DictError.{DictError}
use Rattle.ags_dict.specs.declared.reading.DictError.TheVariants.{NotDictionary, NoDict, MissingHeading, NoMemory}
use Rattle.ags_dict.specs.Entries.{Entries, has_dict, lacks_heading, entries_of_file}

-- The bytes are a file of these contents. Bytes beyond ASCII and lines that end in LF alone are taken.
abbrev pub HasContents : List ℕ → List Contents → Type 0
HasContents bytes contents = (groups : List Group) × LooseGroups bytes groups × (contents ≡ contents_of groups)

-- The file has no group DICT.
abbrev pub LacksDict : List ℕ → Type 0
LacksDict bytes = (contents : List Contents) × HasContents bytes contents × (has_dict contents ≡ false)

-- DICT lacks a heading that makes entries.
abbrev pub LacksHeading : List ℕ → Type 0
LacksHeading bytes =
    (contents : List Contents) × HasContents bytes contents × (has_dict contents ≡ true)
    × (lacks_heading contents ≡ true)

-- The bytes are the dictionary of these entries.
abbrev pub IsDictionary : List ℕ → Entries → Type 0
IsDictionary bytes entries =
    (contents : List Contents) × HasContents bytes contents × (has_dict contents ≡ true)
    × (lacks_heading contents ≡ false) × (entries ≡ entries_of_file contents)

-- What reading a dictionary gives: its entries, or the first refusal that holds.
abbrev pub ReadsDictionary : List ℕ → Result Entries DictError → Type 0
-- it is a dictionary, of these entries
ReadsDictionary bytes (Ok entries) = IsDictionary bytes entries
-- it breaks rules other than 1 and 2a, and these are its findings
ReadsDictionary bytes (Err (NotDictionary found)) = LooseFindings bytes found × (found ≢ [])
-- it breaks none of these, and has no group DICT
ReadsDictionary bytes (Err NoDict) = LacksDict bytes
-- it breaks none, and its group DICT lacks a heading
ReadsDictionary bytes (Err MissingHeading) = LacksHeading bytes
-- memory was refused, which says nothing of the bytes
ReadsDictionary bytes (Err NoMemory) = Unit {0}
