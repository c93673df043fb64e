-- Laws over the definitions alone.
use Rattle.std.specs.Prelude.{◌≡◌, ◌↔◌, ℕ, List, []}
use Rattle.ags_rows.specs.declared.finding.Finding.{Finding}
use Rattle.ags_rows.specs.declared.rows.Group.{Group}
use Rattle.ags_rows.specs.Contents.{contents_of}
use Rattle.ags_rows.specs.Findings.{FileGroups}
use Rattle.ags_dict.specs.Entries.{Entries}
use Rattle.ags_check.specs.Findings.{Findings, IsClear, CheckedFile, IsClean}
use Rattle.ags_check.specs.Header.{StandsInDictionary}
use Rattle.ags_check.specs.Keeping.{KeepsHeaders, KeepsRows, KeepsRules}
use Rattle.ags_check.specs.RowRules.{StandsInEntries}

-- A file has at most one list of findings under a dictionary.
abbrev pub OneListUnderDictionary : Type 0
OneListUnderDictionary =
    (given : Entries) (bytes : List ℕ) (found others : List Finding) → Findings given bytes found
    → Findings given bytes others → found ≡ others

-- The fourth phase has no finding exactly where the contents keep its rules.
abbrev pub ClearHeaders : Type 0
ClearHeaders =
    (given entries : Entries) (groups : List Group)
    → IsClear (StandsInDictionary given entries groups) ↔ KeepsHeaders given entries (contents_of groups)

-- The fifth phase has no finding exactly where the contents keep its rules.
abbrev pub ClearRows : Type 0
ClearRows =
    (entries : Entries) (groups : List Group)
    → IsClear (StandsInEntries entries groups) ↔ KeepsRows entries (contents_of groups)

-- A file whose lines and rows have no finding has none at all exactly where its contents keep the rules of the last two
-- phases.
abbrev pub CleanContents : Type 0
CleanContents =
    (given : Entries) (bytes : List ℕ) (groups : List Group) → FileGroups bytes groups
    → Findings given bytes [] ↔ KeepsRules given (contents_of groups)

-- Two clean files of the same bytes under the same entries are one.
abbrev pub OneCleanFile : Type 0
OneCleanFile =
    (one other : CheckedFile) → IsClean one → IsClean other → one.given ≡ other.given → one.bytes ≡ other.bytes
    → one ≡ other
