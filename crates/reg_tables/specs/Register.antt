-- A register in tables, and what a connection keeps.
use Rattle.std.specs.Prelude.{◌≡◌, ℕ, zero, suc, ℤ, ◌+◌, ◌≤◌, pos, Bool, true, false, find, unwrap_or, List, [], ◌∷◌}
use Rattle.std.specs.Prelude.{map, length, IsTrue, Option, Some, None, slice_get, codes, if◌then◌else◌}
use Rattle.std.specs.List.{AllByRecursion, AllZip, list_any}
use Rattle.std.specs.Str.{bytes_eq}
use Rattle.std.specs.List.Sorted.{IsPermutation}
use Rattle.sqlite.specs.declared.types.Value.{Value}
use Rattle.sqlite.specs.declared.types.Value.TheVariants.{Int, Text as Words, Blob as Bytes}
use Rattle.sqlite.specs.Order.{Row, bytes, column}
use Rattle.sqlite.specs.Tree.{Trees}
use Rattle.sqlite.specs.Effect.{Database, IsDatabase}
use Rattle.sqlite.specs.State.{State, HasCleanDisk}
use Rattle.ags_rows.specs.declared.TheConstants.{READABLE}
use Rattle.ags_dict.specs.Entries.{Entries}
use Rattle.ags_dict.specs.Reading.{IsDictionary}
use Rattle.ags_check.specs.Findings.{CheckedFile}
use Rattle.reg_store.specs.Sent.{Sent}
use Rattle.reg_store.specs.Deposit.{Deposit, sents}
use Rattle.reg_tables.specs.declared.schema.format.Format.{Format}
use Rattle.reg_tables.specs.declared.schema.format.Format.TheVariants.{First, Second}
use Rattle.reg_tables.specs.Tables.{format_number, register_schema, schema_of}
use Rattle.reg_tables.specs.Rows.{columns_3, deposit_table, dictionary_row, first_column, format_row, has_number}
use Rattle.reg_tables.specs.Rows.{line_table, number_row, step_table, placed_rows, step_pair, rows_under}
use Rattle.reg_store.specs.Fit.{IsFileOf, IsNamed, kept_rows}
use Rattle.reg_store.specs.Apart.{AreApart}

-- ---- the deposits

-- the deposits as rows, numbered from n
abbrev pub deposit_rows : ℕ → List Sent → List Row
deposit_rows n [] = []
deposit_rows n (d ∷ more) =
    (Int (pos n) ∷ Words d.firm ∷ Words d.project ∷ Int d.embargo ∷ Bytes d.bytes ∷ []) ∷ deposit_rows (n + 1) more

-- the number in a value, and 0 in any other
abbrev pub integer_in : Value → ℤ
integer_in (Int n) = n
integer_in _ = pos 0

-- a row of deposits, by its columns
abbrev pub deposit_in : Row → Sent
deposit_in c = record {
  firm = bytes (column c 1);
  project = bytes (column c 2);
  embargo = integer_in (column c 3);
  bytes = bytes (column c 4);
}

-- the deposit of a number
abbrev pub deposit_at : List Row → ℕ → Sent
deposit_at rows n = deposit_in (unwrap_or (find (has_number n) rows) [])

-- so many deposits, from a number on
abbrev pub deposits_from : List Row → ℕ → ℕ → List Sent
deposits_from rows n zero = []
deposits_from rows n (suc count) = deposit_at rows n ∷ deposits_from rows (n + 1) count

-- what the table `deposits` says: as many deposits as it has rows, by their numbers from 1
unfoldable pub sents_in : Trees → List Sent
sents_in trees = deposits_from (deposit_table trees) 1 (length (deposit_table trees))

-- ---- the marks

-- of each deposit, whether it is withdrawn
abbrev pub marks_of : List Deposit → List Bool
marks_of list = map (λ d. d.withdrawn) list

-- the numbers of the marked deposits as rows, numbered from n
abbrev pub mark_rows : ℕ → List Bool → List Row
mark_rows n [] = []
mark_rows n (true ∷ more) = number_row n ∷ mark_rows (n + 1) more
mark_rows n (false ∷ more) = mark_rows (n + 1) more

-- the numbers in the table `withdrawals`; format 1 has no such table
abbrev pub mark_table : Format → Trees → List Row
mark_table First trees = []
mark_table Second trees = map first_column (trees 8)

-- what was sent, numbered from n, each with its mark among these
abbrev pub with_marks : ℕ → List Row → List Sent → List Deposit
with_marks n marks [] = []
with_marks n marks (d ∷ more) =
    record { sent = d; withdrawn = list_any (has_number n) marks } ∷ with_marks (n + 1) marks more

-- what the tables of format 2 say
unfoldable pub deposits_in : Trees → List Deposit
deposits_in trees = with_marks 1 (mark_table Second trees) (sents_in trees)

-- ---- the rows and steps of a deposit, where there is one

abbrev pub file_lines : Option CheckedFile → List Row
file_lines None = []
file_lines (Some file) = placed_rows 0 (kept_rows file.groups)

abbrev pub file_steps : Option CheckedFile → List Row
file_steps None = []
file_steps (Some file) = map step_pair file.graph.steps

-- ---- the table meta

-- the row has the dictionary
abbrev pub has_dictionary : Row → Bool
has_dictionary c = bytes_eq (bytes (column c 0)) (codes "dictionary")

-- the body of the first such row
abbrev pub dictionary_body : List Row → List ℕ
dictionary_body [] = []
dictionary_body (c ∷ more) = if has_dictionary c then bytes (column c 2) else dictionary_body more

-- the bytes of the dictionary that the table `meta` holds
abbrev pub text_in : Trees → List ℕ
text_in trees = dictionary_body (map columns_3 (trees 0))

-- the rows of meta by their columns, ordered by name
abbrev pub meta_columns : ℕ → List ℕ → List Row
meta_columns number text = dictionary_row text ∷ format_row number ∷ []

-- What both formats have: the tables hold what was sent, under the dictionary that they hold. Rows are compared by
-- their columns, in whatever order they are, and no rowid counts: the number of a deposit is a column.
pub record HoldsSent (format : Format) (db : Database) (dictionary : Entries) (list : List Sent) : Type 0 where
  pub schema : db.schema ≡ schema_of format
  pub sound : IsDatabase db
  pub text : List ℕ
  pub short : length text ≤ READABLE
  pub reads : IsDictionary text dictionary
  pub meta : IsPermutation (meta_columns (format_number format) text) (map columns_3 (db.trees 0))
  pub deposits : IsPermutation (deposit_rows 1 list) (deposit_table db.trees)
  pub files : List CheckedFile
  pub each : AllZip (IsFileOf dictionary) list files
  pub named : AllByRecursion IsNamed list
  pub apart : AreApart list
  pub few : length list ≤ 999999
  -- of each number, the rows of that deposit, and none where there is no such deposit
  pub lines : (k : ℕ) → IsPermutation (file_lines (slice_get files k)) (rows_under (k + 1) (line_table db.trees))
  pub steps : (k : ℕ) → IsPermutation (file_steps (slice_get files k)) (rows_under (k + 1) (step_table db.trees))

-- The tables are a register of this format and this list: they hold what was sent, and the marks are those of the list.
pub record IsRegisterOf (format : Format) (db : Database) (dictionary : Entries) (list : List Deposit) : Type 0 where
  pub holds : HoldsSent format db dictionary (sents list)
  pub marks : IsPermutation (mark_rows 1 (marks_of list)) (mark_table format db.trees)

-- The tables are a register, which is of format 2.
abbrev pub IsRegister : Database → Entries → List Deposit → Type 0
IsRegister = IsRegisterOf Second

abbrev pub tables : Trees → Database
tables trees = record { schema = register_schema; trees = trees }

-- a crash may leave tables that are a register of this list, with these bytes of the dictionary
abbrev pub LeavesList : (Trees → Type 0) → Entries → List ℕ → List Deposit → Type 0
LeavesList may_leave dictionary bytes list =
    (trees : Trees) × may_leave trees × (bytes ≡ text_in trees) × IsRegister (tables trees) dictionary list

-- a crash may leave tables that are a register of no list
abbrev pub LeavesBroken : (Trees → Type 0) → Entries → Type 0
LeavesBroken may_leave dictionary =
    (trees : Trees) × may_leave trees × ((list : List Deposit) → IsRegister (tables trees) dictionary list → ⊥)

-- what a store that has not failed keeps true of its connection
pub record KeepsRegister (s : State) (dictionary : Entries) (count : ℕ) : Type 0 where
  pub is_open : IsTrue s.is_open
  pub settled : s.committed ≡ s.now
  pub register : IsRegister s.now dictionary (deposits_in s.committed.trees)
  pub counted : count ≡ length (deposits_in s.committed.trees)

-- On a clean disk the connection is that of a store that has not failed.
abbrev pub KeepsIfClean : State → Entries → ℕ → Type 0
KeepsIfClean s dictionary count = HasCleanDisk s → ∥ KeepsRegister s dictionary count ∥₁
