-- What the calls of a store read of a deposit and of its file.
use Rattle.std.specs.Prelude.{◌≡◌, ◌≤◌, ◌-◌, ℕ, List, Some, Vec, slice_get}
use Rattle.std.specs.declared.alloc.Global.{Global}
use Rattle.ags_dict.specs.Entries.{Entries}
use Rattle.ags_links.specs.Walks.{StepGraph}
use Rattle.ags_check.specs.Findings.{CheckedFile}
use Rattle.reg_store.specs.declared.keep.KeptHead.{KeptHead}
use Rattle.reg_store.specs.declared.keep.KeptRow.{KeptRow}
use Rattle.reg_store.specs.declared.keep.HeadedRow.{HeadedRow}
use Rattle.reg_store.specs.Keep.{IsHeadOf}
use Rattle.reg_store.specs.Sent.{Sent}
use Rattle.reg_store.specs.Deposit.{Deposit}
use Rattle.reg_store.specs.Fit.{IsFileOf, kept_rows}
use Rattle.reg_store.specs.Project.{AreProjectRows}

-- The head is that of deposit n of the list.
abbrev pub IsHeadAt : List Deposit → ℕ → KeptHead → Type 0
IsHeadAt list n head = (d : Deposit) → slice_get list (n - 1) ≡ Some d → IsHeadOf d head

-- This holds of the checked file of the deposit.
abbrev pub OfFile : Entries → Sent → (CheckedFile → Type 0) → Type 0
OfFile dictionary d Holds = (file : CheckedFile) → IsFileOf dictionary d file → Holds file

-- These are the rows that are kept of the file.
abbrev pub HasKeptRows : Vec KeptRow Global → CheckedFile → Type 0
HasKeptRows rows file = rows.items ≡ kept_rows file.groups

-- This is the graph of the steps between the file's DATA rows.
abbrev pub HasGraph : StepGraph → CheckedFile → Type 0
HasGraph graph file = graph ≡ file.graph

-- These are the file's row of PROJ and the rows that it reaches, with the header rows above them, in any order.
abbrev pub HasProjectRows : Vec HeadedRow Global → CheckedFile → Type 0
HasProjectRows found file = AreProjectRows (kept_rows file.groups) file.graph.steps found.items

-- The row has one of the five kinds.
abbrev pub HasKind : KeptRow → Type 0
HasKind row = row.kind ≤ 4
