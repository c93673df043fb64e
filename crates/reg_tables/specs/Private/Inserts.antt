-- What the inserts do.
use Rattle.std.proofs.Common.{◌≡◌, ◌≢◌, ℕ, List, [], ◌∷◌, map}
use Rattle.std.specs.List.{AllByRecursion}
use Rattle.sqlite.specs.Order.{Row}
use Rattle.sqlite.specs.Effect.{Database, IsDatabase}
use Rattle.reg_store.specs.declared.keep.KeptRow.{KeptRow}
use Rattle.reg_store.specs.Sent.{Sent}
use Rattle.reg_tables.specs.Tables.{register_schema}
use Rattle.reg_tables.specs.Rows.{columns_5, columns_3, line_table, line_rows, step_table, step_rows, given_deposit}
use Rattle.reg_tables.specs.Rows.{deposit_table, first_column, number_row, IsMore}

-- One table holds more rows, by their columns, and the database is sound; the other tables are as they were.
pub record AddsTo (tree : ℕ) (see : Row → Row) (more : List Row) (old new : Database) : Type 0 where
  pub schema : new.schema ≡ register_schema
  pub sound : IsDatabase new
  pub rows : IsMore (map see (old.trees tree)) more (map see (new.trees tree))
  pub others : AllByRecursion (λ t. t.tree ≢ tree → new.trees t.tree ≡ old.trees t.tree) register_schema.tables

abbrev pub AddsDeposit : ℕ → Sent → Database → Database → Type 0
AddsDeposit n d = AddsTo 2 columns_5 (given_deposit n d ∷ [])

abbrev pub AddsLines : List Row → Database → Database → Type 0
AddsLines = AddsTo 4 columns_5

abbrev pub AddsSteps : List Row → Database → Database → Type 0
AddsSteps = AddsTo 6 columns_3

abbrev pub AddsMark : ℕ → Database → Database → Type 0
AddsMark n = AddsTo 8 first_column (number_row n ∷ [])

-- a deposit with its rows and its steps
pub record AddsFile (n : ℕ) (d : Sent) (rows : List KeptRow) (graph : List (ℕ × ℕ)) (old new : Database) : Type 0 where
  pub schema : new.schema ≡ register_schema
  pub meta : new.trees 0 ≡ old.trees 0
  pub deposits : IsMore (deposit_table old.trees) (given_deposit n d ∷ []) (deposit_table new.trees)
  pub lines : IsMore (line_table old.trees) (line_rows n 0 rows) (line_table new.trees)
  pub steps : IsMore (step_table old.trees) (step_rows n graph) (step_table new.trees)
  pub marks : new.trees 8 ≡ old.trees 8
