-- What the private functions that read lines and steps find, from what the connection shows.
use Rattle.std.specs.Prelude.{◌≡◌, ℕ, List, map}
use Rattle.std.specs.List.Sorted.{IsPermutation}
use Rattle.sqlite.specs.Tree.{IsAscending}
use Rattle.sqlite.specs.Order.{Row}
use Rattle.sqlite.specs.Effect.{Database}
use Rattle.ags_links.specs.Steps.{IsBefore}
use Rattle.reg_store.specs.declared.keep.KeptRow.{KeptRow}
use Rattle.reg_tables.specs.Rows.{line_table, step_table, placed_rows, rows_under, step_pair}

-- ---- the rows of a deposit

-- the rows of the number are these, in whatever order the table has them
abbrev pub HoldsLines : Database → ℕ → List KeptRow → Type 0
HoldsLines db n rows = IsPermutation (placed_rows 0 rows) (rows_under n (line_table db.trees))

-- the steps of the number are these, in whatever order the table has them
abbrev pub HoldsSteps : Database → ℕ → List (ℕ × ℕ) → Type 0
HoldsSteps db n steps = IsPermutation (map step_pair steps) (rows_under n (step_table db.trees))

-- The rows are those of the file whose rows the table `lines` holds under the number.
abbrev pub AreRowsAt : Database → ℕ → List KeptRow → Type 0
AreRowsAt db n rows = (file : List KeptRow) → HoldsLines db n file → rows ≡ file

-- ---- the steps of a deposit

abbrev pub HasSteps : ℕ → List Row → List (ℕ × ℕ) → Type 0
HasSteps n table read = (steps : List (ℕ × ℕ)) → IsAscending IsBefore steps
    → IsPermutation (map step_pair steps) (rows_under n table) → read ≡ steps
