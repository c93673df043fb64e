-- A file without findings in the rows keeps the rules of contents where it has no finding at all.
use Rattle.std.proofs.Common.{◌≡◌, List, [], ◌∷◌, refl, ap, subst, ◌∙◌, inr, ℕ}
use Rattle.ags_rows.specs.declared.finding.Finding.{Finding}
use Rattle.ags_rows.specs.declared.rows.Group.{Group}
use Rattle.ags_rows.specs.Contents.{contents_of}
use Rattle.ags_rows.specs.Findings.{FileParts, FirstFound, FileGroups}
use Rattle.ags_rows.specs.Stands.{StandsInLines, StandsInOrder, StandsInGroups}
use Rattle.ags_rows.proofs.Lemmas.{same_file, clear_first}
use Rattle.ags_dict.specs.Entries.{Entries, extended}
use Rattle.ags_check.specs.Findings.{Findings, dictionary_phases}
use Rattle.ags_check.specs.Header.{StandsInDictionary}
use Rattle.ags_check.specs.Keeping.{Keeps, KeepsRules}
use Rattle.ags_check.specs.Laws.{ClearHeaders, ClearRows, CleanContents}
use Rattle.ags_check.specs.RowRules.{StandsInEntries}
use Rattle.ags_check.proofs.Keeping.{headers_clear, rows_clear}
use Rattle.ags_check.proofs.Kept.{headers_kept, rows_kept}
use Rattle.ags_check.proofs.Whole.{groups_found}

pub clear_headers : ClearHeaders
clear_headers given entries groups = (headers_kept given entries groups, headers_clear given entries groups)

pub clear_rows : ClearRows
clear_rows entries groups = (rows_kept entries groups, rows_clear entries groups)

last_phases : (file : FileParts) (later : List (Finding → Type 0)) → FirstFound (StandsInLines file.lines ∷ StandsInOrder file.rows ∷ StandsInGroups file.groups ∷ later) [] → FirstFound later []
last_phases file later h =
    let a = clear_first (StandsInLines file.lines) (StandsInOrder file.rows ∷ StandsInGroups file.groups ∷ later) h in
    let b = clear_first (StandsInOrder file.rows) (StandsInGroups file.groups ∷ later) a.1 in
    (clear_first (StandsInGroups file.groups) later b.1).1

phases_kept : (given entries : Entries) (groups : List Group) → FirstFound (dictionary_phases given entries groups) [] → Keeps given entries (contents_of groups)
phases_kept given entries groups h =
    let a = clear_first (StandsInDictionary given entries groups) (StandsInEntries entries groups ∷ []) h in
    let b = clear_first (StandsInEntries entries groups) [] a.1 in
    (headers_kept given entries groups a.0, rows_kept entries groups b.0)

pub clean_keeps : (given : Entries) (bytes : List ℕ) (groups : List Group) → FileGroups bytes groups → Findings given bytes [] → KeepsRules given (contents_of groups)
clean_keeps given bytes groups read found =
    let last = last_phases found.0 (dictionary_phases given (extended given (contents_of found.0.groups)) found.0.groups) found.2 in
    let kept = phases_kept given (extended given (contents_of found.0.groups)) found.0.groups last in
    let same : found.0.groups ≡ groups = ap (λ (file : FileParts). file.groups) (same_file bytes found.0 read.0 found.1 read.1) ∙ read.4 in
    subst (λ (g : List Group). KeepsRules given (contents_of g)) same kept

pub keeps_clean : (given : Entries) (bytes : List ℕ) (groups : List Group) → FileGroups bytes groups → KeepsRules given (contents_of groups) → Findings given bytes []
keeps_clean given bytes groups read kept =
    let entries = extended given (contents_of groups) in
    groups_found given entries bytes groups [] read refl (inr (headers_clear given entries groups kept.0, inr (rows_clear entries groups kept.1, refl)))

pub clean_contents : CleanContents
clean_contents given bytes groups read = (clean_keeps given bytes groups read, keeps_clean given bytes groups read)
