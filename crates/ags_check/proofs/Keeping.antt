-- The fourth and the fifth phase have no finding against groups whose contents keep the rules.
use Rattle.std.proofs.Common.{ℕ, ◌+◌, List, inl, inr, Contains}
use Rattle.ags_rows.specs.declared.code.Code.{Code}
use Rattle.ags_rows.specs.declared.finding.Finding.{Finding}
use Rattle.ags_rows.specs.declared.rows.Row.{Row}
use Rattle.ags_rows.specs.declared.rows.Group.{Group}
use Rattle.ags_rows.specs.Collecting.{At, OneOf}
use Rattle.ags_rows.specs.Contents.{Contents, group_contents, contents_of, fields_of}
use Rattle.ags_dict.specs.Entries.{Entries, required_of}
use Rattle.ags_links.specs.DataRows.{row_in, entry_of, rows_before}
use Rattle.ags_check.specs.Header.{unknown_code, heading_row_rules, group_header_rules, file_rules, StandsInDictionary}
use Rattle.ags_check.specs.HeaderSteps.{InOnlyRows}
use Rattle.ags_check.specs.RowRules.{unit_over, type_over, RepeatsKey, data_entry_rules, data_row_rules, entry_rules_of, StandsInEntries}
use Rattle.ags_check.specs.Keeping.{KeepsOnlyRow, KeepsHeader, KeepsHeaders, KeepsEntry, KeepsRow, KeepsRows}
use Rattle.ags_check.specs.Findings.{IsClear}
use Rattle.ags_rows.proofs.Lemmas.{at_map, contains_at}
use Rattle.ags_check.proofs.Numbering.{group_rows}

contents_contain : (groups : List Group) (k : ℕ) (g : Group) → At groups k g → Contains (contents_of groups) (group_contents g)
contents_contain groups k g at = contains_at (contents_of groups) k (group_contents g) (at_map group_contents groups k g at)

only_clear : (g : Group) → ((place : ℕ) (fields : List (List ℕ)) → At (group_contents g).rows place fields → KeepsOnlyRow (group_contents g) place fields)
    → (f : Finding) → InOnlyRows g f → ⊥
only_clear g k f n =
    let keeps = k n.0 (fields_of n.1) (at_map fields_of g.rows n.0 n.1 n.2) in
    elim n.3 [
      | inl h ↦ keeps.delimiter h.0
      | inr (inl h) ↦ keeps.concatenator h.0
      | inr (inr (inl h)) ↦ keeps.one_project h.0
      | inr (inr (inr (inl h))) ↦ keeps.one_transmission h.0
      | inr (inr (inr (inr h))) ↦ h
    ]

heading_clear : (given entries : Entries) (file : List Contents) (code : Code) (g : Group) → KeepsHeader given entries file (group_contents g) → (f : Finding) → OneOf (heading_row_rules given entries code g) f → ⊥
heading_clear given entries file code g k f (inl n) = k.order f.subject n.0
heading_clear given entries file code g k f (inr (inl n)) = k.headings f.subject n.0
heading_clear given entries file code g k f (inr (inr (inl n))) = k.keys f.subject n.0
heading_clear given entries file code g k f (inr (inr (inr (inl n)))) = k.required f.subject n.0
heading_clear given entries file code g k f (inr (inr (inr (inr (inl n))))) = k.names f.subject n.0
heading_clear given entries file code g k f (inr (inr (inr (inr (inr n))))) = n

group_clear : (given entries : Entries) (file : List Contents) (code : Code) (g : Group) → KeepsHeader given entries file (group_contents g) → (f : Finding) → OneOf (group_header_rules given entries file code g) f → ⊥
group_clear given entries file code g k f (inl n) = k.known n.0
group_clear given entries file code g k f (inr (inl n)) = k.parent n.0
group_clear given entries file code g k f (inr (inr (inl n))) = heading_clear given entries file code g k f n.1
group_clear given entries file code g k f (inr (inr (inr (inl n)))) = only_clear g k.only_rows f n
group_clear given entries file code g k f (inr (inr (inr (inr n)))) = n

file_clear : (given entries : Entries) (file : List Contents) → KeepsHeaders given entries file → (f : Finding) → OneOf (file_rules file) f → ⊥
file_clear given entries file k f (inl n) = n.0 k.project
file_clear given entries file k f (inr (inl n)) = n.0 k.transmission
file_clear given entries file k f (inr (inr (inl n))) = n.0 k.units
file_clear given entries file k f (inr (inr (inr (inl n)))) = n.0 k.types
file_clear given entries file k f (inr (inr (inr (inr n)))) = n

pub headers_clear : (given entries : Entries) (groups : List Group) → KeepsHeaders given entries (contents_of groups) → IsClear (StandsInDictionary given entries groups)
headers_clear given entries groups k f (inl n) =
    group_clear given entries (contents_of groups) (unknown_code (contents_of groups)) n.1 (k.groups (group_contents n.1) (contents_contain groups n.0 n.1 n.2)) f n.3
headers_clear given entries groups k f (inr n) = file_clear given entries (contents_of groups) k f n

entry_clear : (file : List Contents) (line : ℕ) (heading unit code text : List ℕ) → KeepsEntry file heading unit code text → (f : Finding) → OneOf (data_entry_rules file line heading unit code text) f → ⊥
entry_clear file line heading unit code text k f (inl n) = k.fits n.0
entry_clear file line heading unit code text k f (inr (inl n)) = k.units n.0
entry_clear file line heading unit code text k f (inr (inr (inl n))) = k.abbreviations n.0
entry_clear file line heading unit code text k f (inr (inr (inr (inl n)))) = k.types n.0
entry_clear file line heading unit code text k f (inr (inr (inr (inr n)))) = n

data_clear : (entries : Entries) (file : List Contents) (g : Group) (number : ℕ) (row : Row) → KeepsRow entries file (group_contents g) (fields_of row)
    → (RepeatsKey entries file number (row_in (group_contents g) (fields_of row)) → ⊥) → (f : Finding) → OneOf (data_row_rules entries file g number row) f → ⊥
data_clear entries file g number row k key f (inl n) =
    let group = group_contents g in
    entry_clear file row.line n.1 (unit_over group n.1) (type_over group n.1) (entry_of (row_in group (fields_of row)) n.1) (k.each n.1 (contains_at g.headings n.0 n.1 n.2)) f n.3
data_clear entries file g number row k key f (inr (inl n)) = key n.0
data_clear entries file g number row k key f (inr (inr (inl n))) =
    elim n.3 [
      | inl l ↦ k.required n.1 (contains_at (required_of entries g.name) n.0 n.1 n.2) l.0
      | inr l ↦ l
    ]
data_clear entries file g number row k key f (inr (inr (inr (inl n)))) = k.parent n.0
data_clear entries file g number row k key f (inr (inr (inr (inr (inl n))))) =
    elim n.3 [
      | inl l ↦ k.links n.1 (contains_at g.headings n.0 n.1 n.2) l.0
      | inr l ↦ l
    ]
data_clear entries file g number row k key f (inr (inr (inr (inr (inr (inl n)))))) = k.file_set n.0
data_clear entries file g number row k key f (inr (inr (inr (inr (inr (inr n)))))) = n

rows_of_clear : (entries : Entries) (groups : List Group) → KeepsRows entries (contents_of groups) → (k : ℕ) (g : Group) → At groups k g → (f : Finding)
    → OneOf (entry_rules_of entries (contents_of groups) (rows_before (contents_of groups) k) g) f → ⊥
rows_of_clear entries groups keeps k g at f (inl n) =
    let there = contents_contain groups k g at in
    let here = contains_at g.headings n.0 n.1 n.2 in
    elim n.3 [
      | inl l ↦ keeps.units (group_contents g) there n.1 here l.0
      | inr (inl l) ↦ keeps.types (group_contents g) there n.1 here l.0
      | inr (inr l) ↦ l
    ]
rows_of_clear entries groups keeps k g at f (inr (inl n)) =
    let there = contents_contain groups k g at in
    let row = contains_at (group_contents g).rows n.0 (fields_of n.1) (at_map fields_of g.rows n.0 n.1 n.2) in
    let number = rows_before (contents_of groups) k + n.0 in
    data_clear entries (contents_of groups) g number n.1 (keeps.rows (group_contents g) there (fields_of n.1) row)
    (keeps.keys number (row_in (group_contents g) (fields_of n.1)) (group_rows groups k g at n.0 n.1 n.2)) f n.3
rows_of_clear entries groups keeps k g at f (inr (inr n)) = n

pub rows_clear : (entries : Entries) (groups : List Group) → KeepsRows entries (contents_of groups) → IsClear (StandsInEntries entries groups)
rows_clear entries groups keeps f n = rows_of_clear entries groups keeps n.0 n.1 n.2 f n.3
