-- From the findings of the phases to the findings of a file.
use Rattle.std.proofs.Common.{◌≡◌, ℕ, List, [], ◌++◌, length, take, refl, subst, sym, ap, ◌∙◌, inr, Result, Ok}
use Rattle.std.specs.Prelude.{IfOk, OnOk}
use Rattle.std.proofs.Math.Seq.{take-append_seam}
use Rattle.std.proofs.lemmas.Result.{on_ok_weaker}
use Rattle.ags_rows.specs.declared.finding.Finding.{Finding}
use Rattle.ags_rows.specs.declared.rows.Group.{Group}
use Rattle.ags_rows.specs.Contents.{Contents, contents_of}
use Rattle.ags_rows.specs.Findings.{FileParts, phases, AreExactly, FirstFound, FileGroups}
use Rattle.ags_rows.proofs.Lemmas.{found_late, none_listed, same_file, one_first_found}
use Rattle.ags_dict.specs.declared.entries.GroupEntry.{GroupEntry}
use Rattle.ags_dict.specs.declared.entries.HeadingEntry.{HeadingEntry}
use Rattle.ags_dict.specs.Entries.{Entries, extended}
use Rattle.ags_check.specs.Findings.{dictionary_phases, IsClear, Findings, HasFindings, CheckedFile, IsClean, first_entries}
use Rattle.ags_check.specs.declared.checking.CheckError.{CheckError}
use Rattle.ags_check.specs.Header.{StandsInDictionary}
use Rattle.ags_check.specs.RowRules.{StandsInEntries}
use Rattle.ags_links.specs.DataRows.{DataFile}
use Rattle.ags_links.specs.Steps.{IsGraphOf}
use Rattle.ags_links.specs.Walks.{StepGraph}

-- where they break nothing, what the groups break is
pub groups_found : (given entries : Entries) (bytes : List ℕ) (groups : List Group) (found : List Finding) → FileGroups bytes groups → entries ≡ extended given (contents_of groups)
    → FirstFound (dictionary_phases given entries groups) found → Findings given bytes found
groups_found given entries bytes groups found read same first =
    let file = read.0 in
    let later : List Group → List (Finding → Type 0) = λ gs. dictionary_phases given (extended given (contents_of gs)) gs in
    let of_file = subst (λ (gs : List Group). FirstFound (later gs) found) (sym read.4) (subst (λ (e : Entries). FirstFound (dictionary_phases given e groups) found) same first) in
    (file, read.1, found_late (phases file) (later file.groups) found read.2 of_file)

-- where neither the headers nor the rows break anything, the file is clean
pub clean : (given entries : Entries) (bytes : List ℕ) (groups : List Group) (graph : StepGraph) → FileGroups bytes groups → entries ≡ extended given (contents_of groups)
    → IsClear (StandsInDictionary given entries groups) → IsClear (StandsInEntries entries groups) → IsGraphOf (record { contents = contents_of groups; entries = entries }) graph
    → IsClean (record { given = given; bytes = bytes; groups = groups; entries = entries; graph = graph })
clean given entries bytes groups graph read same clear clear_rows steps =
    let entries_are = ap (λ (e : Entries). record { contents = contents_of groups; entries = e }) same in
    let none = groups_found given entries bytes groups [] read same (inr (clear, inr (clear_rows, refl))) in
    record { groups = read; file = record { groups = groups; read = read; same = entries_are; findings = none }; graph = steps }

-- ---- the entries given

abbrev pub entries_of : List GroupEntry → List HeadingEntry → Entries
entries_of groups headings = record { groups = groups; headings = headings }

-- they are the first of the extended dictionary
pub given_first : (given entries : Entries) (contents : List Contents) (groups headings : ℕ) → groups ≡ length given.groups → headings ≡ length given.headings
    → entries ≡ extended given contents → first_entries groups headings entries ≡ given
given_first given entries contents groups headings group_count heading_count same =
    let all = extended given contents in
    ap (λ (n : ℕ). first_entries n headings entries) group_count
    ∙ ap (λ (n : ℕ). first_entries (length given.groups) n entries) heading_count
    ∙ ap (first_entries (length given.groups) (length given.headings)) same
    ∙ ap (λ (l : List GroupEntry). entries_of l (take (length given.headings) all.headings)) (take-append_seam given.groups _)
    ∙ ap (entries_of given.groups) (take-append_seam given.headings _)

-- the entries of a clean file are those given, extended by its DICT
pub clean_entries : (checked : CheckedFile) → IsClean checked → checked.entries ≡ extended checked.given (contents_of checked.groups)
clean_entries checked clean =
    let file = clean.file in
    let contents : contents_of checked.groups ≡ contents_of file.groups = ap (λ (f : DataFile). f.contents) file.same in
    ap (λ (f : DataFile). f.entries) file.same ∙ ap (extended checked.given) (sym contents)

abbrev pub checked_file : List ℕ → List Group → Entries → StepGraph → Entries → CheckedFile
checked_file bytes groups entries graph given = record { given = given; bytes = bytes; groups = groups; entries = entries; graph = graph }

-- ---- one list

pub one_list : (given : Entries) (bytes : List ℕ) (found others : List Finding) → Findings given bytes found → Findings given bytes others → found ≡ others
one_list given bytes found others h k =
    let all : FileParts → List (Finding → Type 0) = λ file. phases file ++ dictionary_phases given (extended given (contents_of file.groups)) file.groups in
    let same = same_file bytes k.0 h.0 k.1 h.1 in
    one_first_found (all h.0) found others h.2 (subst (λ (file : FileParts). FirstFound (all file) others) same k.2)

-- ---- what one phase finds

pub clear_where : {E : Type 0} (Stands : Finding → Type 0) (lists : Result (List Finding) E) → IfOk lists (AreExactly Stands) → lists ≡ Ok [] → IsClear Stands
clear_where {E} Stands lists are none = none_listed [] (subst (λ (l : Result (List Finding) E). IfOk l (AreExactly Stands)) none are) refl

pub clear_phase : {E T F : Type 0} (Stands : Finding → Type 0) (lists : Result (List Finding) E) (checked : Result T F) → IfOk lists (AreExactly Stands) → OnOk checked (lists ≡ Ok [])
    → OnOk checked (IsClear Stands)
clear_phase Stands lists checked are clear = on_ok_weaker checked (clear_where Stands lists are) clear

pub found_phase : {E T : Type 0} (Stands : Finding → Type 0) (lists : Result (List Finding) E) (checked : Result T CheckError) → IfOk lists (AreExactly Stands)
    → HasFindings checked (λ found. lists ≡ Ok found) → HasFindings checked (AreExactly Stands)
found_phase {E} Stands lists checked are has = λ found is.
    let these = has found is in
    (subst (λ (l : Result (List Finding) E). IfOk l (AreExactly Stands)) these.0 are, these.1)
