-- Laws over the definitions alone.
use Rattle.std.specs.Prelude.{◌≡◌, ◌≤◌, ◌+◌, ◌↔◌, ℕ, List, Bool, true, length}
use Rattle.ags_rows.specs.Contents.{Contents}
use Rattle.ags_text.specs.Names.{is_definition}
use Rattle.ags_rows.specs.Collecting.{At}
use Rattle.ags_links.specs.DataRows.{DataFile, DataRow, IsRowOfGroup, data_rows, rows_before}
use Rattle.ags_links.specs.Steps.{StepAt, IsGraphOf}
use Rattle.ags_links.specs.Walks.{StepGraph, HasStep, Reaches, IsMarked, IsShown, IsReached}

-- Each number of a DATA row is that of one row of one group, and back.
abbrev pub RowsAreNumbered : Type 0
RowsAreNumbered = (file : List Contents) (n : ℕ) (row : DataRow) → At (data_rows file) n row ↔ IsRowOfGroup file n row

-- The number of a DATA row is that of one row alone: one group has it, at one place.
abbrev pub RowNumbersAreUnique : Type 0
RowNumbersAreUnique =
    (file : List Contents) (n : ℕ) (row other : DataRow)
    (here : IsRowOfGroup file n row) (there : IsRowOfGroup file n other)
    → (here.group_place ≡ there.group_place) × (here.place ≡ there.place)

-- The rows before the next group are those before this one, and its own; all of them are rows of the file.
abbrev pub RowsBeforeAddUp : Type 0
RowsBeforeAddUp = (file : List Contents) (place : ℕ) (group : Contents) → At file place group
    → (rows_before file (place + 1) ≡ rows_before file place + length group.rows)
    × (rows_before file place + length group.rows ≤ length (data_rows file))

-- A row of a definition group has no step.
abbrev pub DefinitionsHaveNoStep : Type 0
DefinitionsHaveNoStep =
    (file : DataFile) (n m : ℕ) (row : DataRow) → At (data_rows file.contents) n row → is_definition row.group ≡ true
    → ¬ (StepAt file n m)

-- A file has at most one graph.
abbrev pub OneGraph : Type 0
OneGraph = (file : DataFile) (graph other : StepGraph) → IsGraphOf file graph → IsGraphOf file other → graph ≡ other

-- What a file's graph reaches and shows is what the file's steps reach and show.
pub record WalksAsFile (file : DataFile) (graph : StepGraph) : Type 0 where
  pub steps : (n m : ℕ) → HasStep graph.steps n m ↔ StepAt file n m
  pub reaches : (n m : ℕ) → Reaches (HasStep graph.steps) n m ↔ Reaches (StepAt file) n m
  pub shown : (permitted : List Bool) (n : ℕ)
      → IsShown (HasStep graph.steps) (IsMarked permitted) n ↔ IsShown (StepAt file) (IsMarked permitted) n
  pub reached : (from : List Bool) (n : ℕ)
      → IsReached (HasStep graph.steps) (IsMarked from) n ↔ IsReached (StepAt file) (IsMarked from) n

abbrev pub GraphsWalkAsFiles : Type 0
GraphsWalkAsFiles = (file : DataFile) (graph : StepGraph) → IsGraphOf file graph → WalksAsFile file graph
