-- The findings of a file under a dictionary, and a file without any.
use Rattle.std.specs.Prelude.{◌≡◌, ◌≢◌, ℕ, List, [], ◌∷◌, ◌++◌, take, Result, IsErrOf}
use Rattle.ags_rows.specs.declared.finding.Finding.{Finding}
use Rattle.ags_rows.specs.declared.rows.Group.{Group}
use Rattle.ags_rows.specs.Contents.{Contents, contents_of}
use Rattle.ags_rows.specs.Findings.{FileParts, ArePartsOf, phases, FirstFound, FileGroups}
use Rattle.ags_dict.specs.Entries.{Entries, extended}
use Rattle.ags_links.specs.DataRows.{DataFile}
use Rattle.ags_links.specs.Steps.{IsGraphOf}
use Rattle.ags_links.specs.Walks.{StepGraph}
use Rattle.ags_check.specs.declared.checking.CheckError.{CheckError}
use Rattle.ags_check.specs.declared.checking.CheckError.TheVariants as errors
use Rattle.ags_check.specs.Header.{StandsInDictionary}
use Rattle.ags_check.specs.RowRules.{StandsInEntries}

-- The phases after those of the rows: a file's groups, against the dictionary given and its extended entries.
abbrev pub dictionary_phases : Entries → Entries → List Group → List (Finding → Type 0)
dictionary_phases given entries groups = StandsInDictionary given entries groups ∷ StandsInEntries entries groups ∷ []

-- the phase has no finding
abbrev pub IsClear : (Finding → Type 0) → Type 0
IsClear Stands = (found : Finding) → ¬ (Stands found)

-- The findings of a file under a dictionary, which the file's own DICT extends: those of the first of all phases that
-- has any.
abbrev pub Findings : Entries → List ℕ → List Finding → Type 0
Findings given bytes found = (file : FileParts) × ArePartsOf bytes file
    × FirstFound (phases file ++ dictionary_phases given (extended given (contents_of file.groups)) file.groups) found

-- Where findings are the error, they are these, and there is one.
abbrev pub HasFindings : {A : Type 0} → Result A CheckError → (List Finding → Type 0) → Type 0
HasFindings result AreThese =
    (found : List Finding) → IsErrOf result (errors.Findings found) → AreThese found × (found ≢ [])

-- contents, read under the entries given and those of their own DICT
abbrev pub read_under : Entries → List Contents → DataFile
read_under given contents = record { contents = contents; entries = extended given contents }

-- The bytes have no finding under the entries given, and `file` is what they hold.
pub record IsCleanFile (given : Entries) (bytes : List ℕ) (file : DataFile) : Type 0 where
  pub groups : List Group
  pub read : FileGroups bytes groups
  pub same : file ≡ read_under given (contents_of groups)
  pub findings : Findings given bytes []

-- What is kept of a file that was checked: the entries given, its bytes, its groups, the entries of the extended
-- dictionary, and its graph.
pub record CheckedFile : Type 0 where
  pub given : Entries
  pub bytes : List ℕ
  pub groups : List Group
  pub entries : Entries
  pub graph : StepGraph

-- the contents of its groups, under its entries
abbrev pub file_of : CheckedFile → DataFile
file_of checked = record { contents = contents_of checked.groups; entries = checked.entries }

-- These are the groups of the bytes; what is in them has no finding; and the graph is its graph.
pub record IsClean (checked : CheckedFile) : Type 0 where
  pub groups : FileGroups checked.bytes checked.groups
  pub file : IsCleanFile checked.given checked.bytes (file_of checked)
  pub graph : IsGraphOf (file_of checked) checked.graph

-- the first entries of a dictionary: so many for groups, and so many for headings
abbrev pub first_entries : ℕ → ℕ → Entries → Entries
first_entries groups headings entries =
    record { groups = take groups entries.groups; headings = take headings entries.headings }
