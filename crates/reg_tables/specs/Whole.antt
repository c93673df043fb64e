-- What `adopt` finds out of a deposit, and of all: as much as makes a register. Of these words only `HasMeta` is in a
-- promise, through `Adopts`.
use Rattle.std.proofs.Common.{◌≡◌, ℕ, ◌+◌, ◌<◌, ◌≤◌, Bool, true, false, List, [], ◌∷◌, ◌++◌, map, filter, take, length}
use Rattle.std.proofs.Common.{Option, Some, None}
use Rattle.std.specs.List.Sorted.{IsPermutation}
use Rattle.sqlite.specs.Order.{Row}
use Rattle.sqlite.specs.Effect.{Database}
use Rattle.ags_rows.specs.declared.TheConstants.{READABLE}
use Rattle.ags_dict.specs.Entries.{Entries}
use Rattle.ags_dict.specs.Reading.{IsDictionary}
use Rattle.ags_check.specs.Findings.{CheckedFile}
use Rattle.reg_store.specs.Sent.{Sent}
use Rattle.reg_store.specs.Fit.{IsFileOf, IsNamed, kept_rows}
use Rattle.reg_tables.specs.Private.Digests.{IsFirst}
use Rattle.reg_tables.specs.Rows.{deposit_table, given_deposit, columns_3, first_column, has_number}
use Rattle.reg_tables.specs.Register.{deposit_rows, meta_columns}
use Rattle.reg_tables.specs.Private.NumberRows.{number_rows}
use Rattle.reg_tables.specs.Private.Methods.{HoldsLines, HoldsSteps}

-- A test finds the fact out: it is true only where the fact holds, and false only where it does not.
pub record Tests (is : Bool) (Fact : Type 0) : Type 0 where
  pub yes : is ≡ true → ∥ Fact ∥₁
  pub no : is ≡ false → Fact → ⊥

-- So many of these rows have come, and the answer is whether they are the first ones.
pub record Compares (mine : List Row) (at : ℕ) (is : Bool) (rows : List Row) : Type 0 where
  pub yes : is ≡ true → (at ≤ length mine) × (rows ≡ take at mine)
  pub no : is ≡ false → (more : List Row) → rows ++ more ≡ mine → ⊥

-- The deposit's bytes have no finding, and the lines and steps of the number are theirs.
pub record HoldsBody (db : Database) (dictionary : Entries) (n : ℕ) (d : Sent) : Type 0 where
  pub file : CheckedFile
  pub its : IsFileOf dictionary d file
  pub lines : HoldsLines db n (kept_rows file.groups)
  pub steps : HoldsSteps db n file.graph.steps

-- The deposit of a number is whole: its row is the only one, with names and a day; its bytes have no finding; its lines
-- and steps are there; and no deposit of a smaller number is equal.
pub record IsWhole (db : Database) (dictionary : Entries) (n : ℕ) : Type 0 where
  pub deposit : Sent
  pub row : filter (has_number n) (deposit_table db.trees) ≡ given_deposit n deposit ∷ []
  pub named : IsNamed deposit
  pub body : HoldsBody db dictionary n deposit
  pub alone : IsFirst db n deposit

-- The numbers of the deposits are those from 1 to the count, which is at most 999,999; or they are not.
abbrev pub Counts : Database → Option ℕ → Type 0
Counts db (Some count) =
    (count ≤ 999999) × IsPermutation (number_rows 1 count) (map first_column (deposit_table db.trees))
Counts db None =
    (list : List Sent) → length list ≤ 999999 → IsPermutation (deposit_rows 1 list) (deposit_table db.trees) → ⊥

-- Every deposit is whole.
abbrev pub AreWhole : Database → Entries → ℕ → Type 0
AreWhole db dictionary count = (k : ℕ) → k < count → IsWhole db dictionary (k + 1)

-- What meta says: the format's number, the dictionary's bytes, and what they read as.
pub record HasMeta (number : ℕ) (db : Database) (dictionary : Entries) : Type 0 where
  pub text : List ℕ
  pub short : length text ≤ READABLE
  pub reads : IsDictionary text dictionary
  pub meta : IsPermutation (meta_columns number text) (map columns_3 (db.trees 0))
