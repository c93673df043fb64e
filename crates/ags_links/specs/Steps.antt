-- The steps of a file: from a DATA row to its parent rows (Rule 10c), to the rows that its record links name (Rule 11)
-- and to the rows of FILE with its FILE_FSET (Rule 20). A row of a definition group has no step.
use Rattle.std.specs.Prelude.{◌≡◌, ◌≢◌, ◌<◌, ◌+◌, ◌⊎◌, ◌↔◌, ℕ, List, [], ◌∷◌, false, length, codes, Contains, slice_index_or}
use Rattle.std.specs.List.{AllByRecursion}
use Rattle.ags_rows.specs.Contents.{under}
use Rattle.ags_text.specs.Names.{is_definition}
use Rattle.ags_dict.specs.Entries.{Entries}
use Rattle.ags_links.specs.DataRows.{DataFile, DataRow, entry_of, data_rows, RowsRelate}
use Rattle.ags_links.specs.Parents.{IsParentRow}
use Rattle.ags_links.specs.RecordLinks.{separators_of, IsPartOf, Names}
use Rattle.ags_links.specs.Walks.{StepGraph}
use Rattle.ags_links.specs.declared.separators.Separators.{Separators}

-- a heading of type RL under which the row has an entry that is not null
abbrev pub IsRecordLink : DataRow → List ℕ → Type 0
IsRecordLink row heading =
    Contains row.headings heading × (under row.headings row.types heading ≡ codes "RL") × (entry_of row heading ≢ [])

-- a part of one of the row's record links
abbrev pub IsLinkedPart : Separators → DataRow → List ℕ → Type 0
IsLinkedPart separators row part = (heading : List ℕ) × IsRecordLink row heading × IsPartOf separators row heading part

-- one of r's record links names s in some part
abbrev pub Linked : Entries → Separators → DataRow → DataRow → Type 0
Linked entries separators r s =
    (heading : List ℕ) × IsRecordLink r heading
    × ((part : List ℕ) × IsPartOf separators r heading part × Names entries separators.delimiter part s)

-- s is a row of FILE with r's FILE_FSET, which is not null
abbrev pub IsFileRow : DataRow → DataRow → Type 0
IsFileRow r s =
    (s.group ≡ codes "FILE") × (entry_of r (codes "FILE_FSET") ≢ [])
    × (entry_of s (codes "FILE_FSET") ≡ entry_of r (codes "FILE_FSET"))

-- One step from r to s: s is a parent row of r (Rule 10c); or r is in a data group, and one of its record links names s
-- (Rule 11); or r is in a data group other than FILE, and s is a row of FILE with its FILE_FSET (Rule 20).
abbrev pub Step : Entries → Separators → DataRow → DataRow → Type 0
Step entries separators r s = IsParentRow entries r s
    ⊎ (((is_definition r.group ≡ false) × Linked entries separators r s)
    ⊎ ((is_definition r.group ≡ false) × (r.group ≢ codes "FILE") × IsFileRow r s))

-- row n of the file has a step to row m
abbrev pub StepAt : DataFile → ℕ → ℕ → Type 0
StepAt file n m = RowsRelate (data_rows file.contents) (Step file.entries (separators_of file.contents)) n m

-- one step is before another: by the row that it starts at, then by the row that it ends at
abbrev pub IsBefore : ℕ × ℕ → ℕ × ℕ → Type 0
IsBefore p q = (p.0 < q.0) ⊎ ((p.0 ≡ q.0) × (p.1 < q.1))

-- each step is before all that follow it
abbrev pub AreAscending : List (ℕ × ℕ) → Type 0
AreAscending [] = Unit {0}
AreAscending (p ∷ steps) = AllByRecursion (IsBefore p) steps × AreAscending steps

-- the list has exactly these steps, sorted, each once
pub record ListsSteps (steps : List (ℕ × ℕ)) (IsOne : ℕ → ℕ → Type 0) : Type 0 where
  pub sorted : (k : ℕ) → k + 1 < length steps
      → IsBefore (slice_index_or steps k (0, 0)) (slice_index_or steps (k + 1) (0, 0))
  pub exact : (n m : ℕ) → Contains steps (n, m) ↔ IsOne n m

-- the graph has the file's DATA rows, and all steps between them, sorted, each once
pub record IsGraphOf (file : DataFile) (graph : StepGraph) : Type 0 where
  pub rows : graph.rows ≡ length (data_rows file.contents)
  pub steps : ListsSteps graph.steps (StepAt file)
