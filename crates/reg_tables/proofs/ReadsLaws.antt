-- What the queries of a register read, where the rows are known by their columns.
use Rattle.std.proofs.Common.{◌≡◌, ℕ, ◌+◌, ◌<◌, ◌≤◌, pos, List, [], ◌∷◌, map, Bool, true, false, ◌&&◌}
use Rattle.std.proofs.Common.{Some, refl, ap, ◌∙◌, arith, drop}
use Rattle.std.specs.List.{AllByRecursion}
use Rattle.std.specs.List.Sorted.{IsPermutation}
use Rattle.std.specs.declared.cmp.Ordering.{Ordering}
use Rattle.std.specs.declared.cmp.Ordering.TheVariants.{Less, Equal}
use Rattle.std.specs.Ordering.{is_eq, ordering_then}
use Rattle.sqlite.specs.declared.types.Value.{Value}
use Rattle.sqlite.specs.declared.types.Value.TheVariants.{Null, Int}
use Rattle.sqlite.specs.Order.{Row, column, value_cmp}
use Rattle.sqlite.specs.Collation.TheVariants.{Binary}
use Rattle.sqlite_sql.specs.declared.ops.BinaryOp.TheVariants.{Compare}
use Rattle.sqlite_sql.specs.declared.ops.CompareOp.TheVariants.{Eq}
use Rattle.sqlite.specs.Ops.{binary, is_true, from_truth}
use Rattle.sqlite.specs.Tree.{IsAscending}
use Rattle.sqlite.specs.Query.{Output, output_cmp}
use Rattle.sqlite.specs.State.{State, Shown}
use Rattle.reg_store.specs.declared.keep.KeptRow.{KeptRow}
use Rattle.reg_tables.specs.Tables.{HasTables}
use Rattle.reg_tables.proofs.Texts.{select_lines}
use Rattle.reg_tables.proofs.MeaningLaws.{lines_of_deposit, lines_read}
use Rattle.reg_tables.proofs.PutLaws.{less}
use Rattle.reg_tables.specs.Rows.{columns_5, line_table, placed_row, placed_rows, has_number, rows_under}
use Rattle.reg_tables.proofs.AnswersLaws.{answers, reads_rows, shows_rows}

-- an order that tests as equal is equal
pub equal_order : (o : Ordering) → is_eq o ≡ true → o ≡ Equal
equal_order Equal h = refl
equal_order o h = absurd cc

pub truth_is : (b : Bool) → is_true (from_truth (Some b)) ≡ b
truth_is true = refl
truth_is false = refl

-- SQL's = with an integer
pub eq_int : (v : Value) (n : ℕ)
    → is_true (binary (Compare Eq Binary) v (Int (pos n))) ≡ is_eq (value_cmp v (Int (pos n)))
unfolding binary value_cmp
eq_int Null n = refl
eq_int v n = truth_is _

pub and_true : (a : Bool) → (a && true) ≡ a
and_true true = refl
and_true false = refl

-- the test of a query for the rows of a number
pub of_number : (v : Value) (n : ℕ) → (is_true (binary (Compare Eq Binary) v (Int (pos n))) && true) ≡ is_eq (value_cmp v (Int (pos n)))
of_number v n = and_true _ ∙ eq_int v n

-- ---- rows that rise by their first column

-- the first columns are numbers from this one on, rising
abbrev pub AreFrom : ℕ → List Row → Type 0
AreFrom m [] = Unit
AreFrom m (r ∷ rows) = (n : ℕ) × (column r 0 ≡ Int (pos n)) × (m ≤ n) × AreFrom (n + 1) rows

module _ (entry : Row → Output) (cmp : Output → Output → Ordering)
    (by : (a b : Row) → cmp (entry a) (entry b) ≡ ordering_then (value_cmp (column a 0) (column b 0)) Equal) where
  below_all : (a : Row) (m n : ℕ) (rows : List Row) → column a 0 ≡ Int (pos m) → m < n → AreFrom n rows
      → AllByRecursion (λ o. cmp (entry a) o ≡ Less) (map entry rows)
  below_all a m n [] is low from = tt
  below_all a m n (r ∷ rows) is low from =
      let before : m < from.0 = omega (arith, low, from.2) in
      let less_first : value_cmp (column a 0) (column r 0) ≡ Less = rw (is, from.1) (less m from.0 before) in
      (by a r ∙ ap (λ o. ordering_then o Equal) less_first, below_all a m (from.0 + 1) rows is (omega (arith, before)) from.3)

  -- a query that sorts by the first column sorts such rows as they are
  pub rises : (m : ℕ) (rows : List Row) → AreFrom m rows → IsAscending (λ a b. cmp a b ≡ Less) (map entry rows)
  rises m [] from = tt
  rises m (r ∷ rows) from = (below_all r from.0 (from.0 + 1) rows from.1 (omega arith) from.3, rises (from.0 + 1) rows from.3)

-- ---- the rows of a deposit in the order of its file

-- what the query makes of a row after the number
abbrev pub by_seq : Row → Output
by_seq c = (column c 0 ∷ [], column c 0 ∷ column c 1 ∷ column c 2 ∷ column c 3 ∷ [])

pub lines_from : (at : ℕ) (rows : List KeptRow) → AreFrom at (placed_rows at rows)
lines_from at [] = tt
lines_from at (row ∷ rows) = (at, refl, omega arith, lines_from (at + 1) rows)

pub lines_show : (at : ℕ) (rows : List KeptRow) → map (λ (o : Output). o.1) (map by_seq (placed_rows at rows)) ≡ placed_rows at rows
lines_show at [] = refl
lines_show at (row ∷ rows) = ap (λ all. placed_row at row ∷ all) (lines_show (at + 1) rows)

-- where the table holds a file's rows under the number, the query shows them in the order of the file
pub reads_lines : (old new : State) (n : ℕ) (file : List KeptRow) (rows : List Row) → HasTables old.now.schema
    → IsPermutation (placed_rows 0 file) (rows_under n (line_table old.now.trees))
    → Shown select_lines (Int (pos n) ∷ []) old new rows → rows ≡ placed_rows 0 file
reads_lines old new n file rows has holds h =
    let a = answers select_lines 4 lines_of_deposit _ old new (Int (pos n) ∷ []) rows (lines_read old.now.schema has) refl h in
    reads_rows a columns_5 (drop 1) by_seq (has_number n) (λ r. of_number (column r 1) n) (λ _. refl) (placed_rows 0 file) holds
    (rises by_seq (output_cmp lines_of_deposit) (λ _ _. refl) 0 (placed_rows 0 file) (lines_from 0 file)) ∙ lines_show 0 file

-- Where the query shows these rows, the table holds them under the number, and no others: so a register is adopted.
pub holds_lines : (old new : State) (n : ℕ) (rows : List Row) → HasTables old.now.schema
    → Shown select_lines (Int (pos n) ∷ []) old new rows → IsPermutation rows (rows_under n (line_table old.now.trees))
holds_lines old new n rows has h =
    let a = answers select_lines 4 lines_of_deposit _ old new (Int (pos n) ∷ []) rows (lines_read old.now.schema has) refl h in
    shows_rows a columns_5 (drop 1) (has_number n) (λ r. of_number (column r 1) n) (λ _. refl)
