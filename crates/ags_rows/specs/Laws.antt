-- Laws over the definitions alone.
use Rattle.std.specs.Prelude.{◌≡◌, ◌≢◌, ◌≤◌, ◌↔◌, ℕ, List, [], ◌∷◌, map, filter, length, Contains, Option, Some, MatchOption}
use Rattle.std.specs.List.{AllByRecursion}
use Rattle.ags_text.specs.Bytes.{carriage_return, line_feed, Lacks}
use Rattle.ags_rows.specs.Spelling.{Spells, SpellsNoFields, line_of}
use Rattle.ags_rows.specs.declared.finding.Finding.{Finding}
use Rattle.ags_rows.specs.Findings.{RowFindings, LooseFindings, FileGroups, LooseGroups}
use Rattle.ags_rows.specs.declared.rows.Group.{Group}
use Rattle.ags_rows.specs.Contents.{Contents, contents_of}
use Rattle.ags_rows.specs.Writing.{group_lines, IsWellFormed, written_file}
use Rattle.ags_rows.specs.declared.rows.Descriptor.TheVariants as kinds
use Rattle.ags_rows.specs.Groups.{row_count}
use Rattle.ags_rows.specs.RowTexts.{each_data_row, row_text, row_texts, is_data_text}
use Rattle.ags_rows.specs.declared.TheConstants.{LIMIT, READABLE}
use Rattle.ags_rows.specs.declared.built_in.TheConstants.{MINI}
use Rattle.ags_rows.specs.Mini.{mini_contents}
use Rattle.ags_rows.specs.declared.code.Code.{Code}
use Rattle.ags_rows.specs.Codes.{codes_in_order}
use Rattle.ags_rows.specs.FindingOrder.{code_cmp, finding_cmp}
use Rattle.std.specs.List.Sorted.{IsStrictlySortedBy}

-- The list of codes has each code, in the order in which findings of one line are sorted: that of the variants of the
-- enum.
abbrev pub CodesAreInOrder : Type 0
CodesAreInOrder = IsStrictlySortedBy code_cmp codes_in_order × ((code : Code) → Contains codes_in_order code)

-- A text spells at most one list of fields, and the spelling of a list without line ends spells it.
abbrev pub OneSpelling : Type 0
OneSpelling =
    ((text : List ℕ) (fields others : List (List ℕ)) → Spells text fields → Spells text others → fields ≡ others)
    × ((fields : List (List ℕ)) → fields ≢ [] → AllByRecursion (λ f. Lacks carriage_return f × Lacks line_feed f) fields
    → Spells (line_of fields) fields)

-- Two lists of findings in order that have the same members are one list, and a file has at most one list of findings,
-- read loosely or not.
abbrev pub OneListOfFindings : Type 0
OneListOfFindings =
    ((found others : List Finding) → IsStrictlySortedBy finding_cmp found → IsStrictlySortedBy finding_cmp others
    → ((f : Finding) → Contains found f ↔ Contains others f) → found ≡ others)
    × ((bytes : List ℕ) (found others : List Finding) → RowFindings bytes found → RowFindings bytes others
    → found ≡ others)
    × ((bytes : List ℕ) (found others : List Finding) → LooseFindings bytes found → LooseFindings bytes others
    → found ≡ others)

-- What reads a written line as `cells` does finds its fields.
abbrev pub WrittenLineIsRead : Type 0
WrittenLineIsRead =
    (fields : List (List ℕ)) (found : Option (List (List ℕ))) → fields ≢ []
    → AllByRecursion (λ f. Lacks carriage_return f × Lacks line_feed f) fields
    → MatchOption found (SpellsNoFields (line_of fields)) (λ others. Spells (line_of fields) others)
    → found ≡ Some fields

-- A file has at most one list of groups, read loosely or not.
abbrev pub OneListOfGroups : Type 0
OneListOfGroups =
    ((bytes : List ℕ) (groups others : List Group) → FileGroups bytes groups → FileGroups bytes others
    → groups ≡ others)
    × ((bytes : List ℕ) (groups others : List Group) → LooseGroups bytes groups → LooseGroups bytes others
    → groups ≡ others)

-- The file that is written has no finding, it has groups, and their contents are what was written.
abbrev pub IsReadBack : List Contents → Type 0
IsReadBack contents =
    RowFindings (written_file contents) []
    × ((groups : List Group) × FileGroups (written_file contents) groups)
    × ((groups : List Group) → FileGroups (written_file contents) groups → contents_of groups ≡ contents)

-- Well formed contents are read back as they were written, and the contents of every file without findings are well
-- formed.
abbrev pub WrittenFileIsRead : Type 0
WrittenFileIsRead =
    ((contents : List Contents) → IsWellFormed contents → IsReadBack contents)
    × ((bytes : List ℕ) (groups : List Group) → FileGroups bytes groups → IsWellFormed (contents_of groups))

-- A file without findings has none when it is read loosely, and then the same groups.
abbrev pub CleanFileReadsLoosely : Type 0
CleanFileReadsLoosely =
    ((bytes : List ℕ) → RowFindings bytes [] → LooseFindings bytes [])
    × ((bytes : List ℕ) (groups : List Group) → FileGroups bytes groups → LooseGroups bytes groups)

-- MINI is the file that is written of its table, which is well formed. It has no finding, and its contents are the
-- table.
abbrev pub MiniIsWritten : Type 0
MiniIsWritten =
    IsWellFormed mini_contents × (MINI.now ≡ written_file mini_contents) × RowFindings MINI.now []
    × ((groups : List Group) × FileGroups MINI.now groups × (contents_of groups ≡ mini_contents))

-- The lines that are written of a group are the spellings of its rows. Of the rows of a file those of kind DATA are its
-- DATA rows, in their order, and as many as its groups have in all.
abbrev pub RowsAreTheirTexts : Type 0
RowsAreTheirTexts =
    ((group : Contents) → map (λ line. line.content) (group_lines group)
    ≡ map (λ row. row.text) (row_texts (group ∷ [])))
    × ((contents : List Contents) → filter is_data_text (row_texts contents)
    ≡ each_data_row (λ group. row_text group.name kinds.Data) contents)
    × ((groups : List Group) → length (filter is_data_text (row_texts (contents_of groups))) ≡ row_count groups)

-- A file has at most as many rows as bytes, read loosely or not.
abbrev pub RowsWithinBytes : Type 0
RowsWithinBytes =
    ((bytes : List ℕ) (groups : List Group) → FileGroups bytes groups
    → length (row_texts (contents_of groups)) ≤ length bytes)
    × ((bytes : List ℕ) (groups : List Group) → LooseGroups bytes groups
    → length (row_texts (contents_of groups)) ≤ length bytes)

-- How many bytes the longest file that is deposited has: the one place of the definitions that has the number.
abbrev pub LongestDeposit : Type 0
LongestDeposit = LIMIT ≡ 16777216

-- The longest text that is read has 67,108,864 bytes.
abbrev pub LongestText : Type 0
LongestText = READABLE ≡ 67108864
