-- What the making of a register does.
use Rattle.std.proofs.Common.{◌≡◌, ℕ, List, [], map}
use Rattle.std.specs.List.Sorted.{IsPermutation}
use Rattle.sqlite.specs.Schema.{Schema}
use Rattle.sqlite.specs.Change.{next_tree, KeepsRows}
use Rattle.sqlite.specs.Tree.{Trees}
use Rattle.sqlite.specs.Effect.{Database, IsDatabase}
use Rattle.sqlite.specs.State.{State, HasCleanDisk, Survives}
use Rattle.ags_dict.specs.Entries.{Entries}
use Rattle.reg_tables.specs.Tables.{no_schema, first_schema, register_schema}
use Rattle.reg_tables.specs.Private.Meaning.{with_deposits}
use Rattle.reg_tables.specs.Rows.{columns_3}
use Rattle.reg_tables.specs.Register.{deposits_in, meta_columns, text_in, IsRegister, tables}

-- the text makes this table under this schema: the schema with it, its tree empty, the trees of the other tables kept
pub record Made (from to : Schema) (old new : Database) : Type 0 where
  pub schema : new.schema ≡ to
  pub empty : new.trees (next_tree from) ≡ []
  pub others : KeepsRows from.tables old.trees new.trees

-- the table of format 2 that format 1 has not
abbrev pub MakesWithdrawals : Database → Database → Type 0
MakesWithdrawals = Made first_schema register_schema

-- the first two tables, both empty
pub record HasFirst (db : Database) : Type 0 where
  pub schema : db.schema ≡ with_deposits
  pub meta : db.trees 0 ≡ []
  pub deposits : db.trees 2 ≡ []

-- the tables of format 1, all empty
pub record HasFour (db : Database) : Type 0 where
  pub schema : db.schema ≡ first_schema
  pub meta : db.trees 0 ≡ []
  pub deposits : db.trees 2 ≡ []
  pub lines : db.trees 4 ≡ []
  pub steps : db.trees 6 ≡ []

-- the tables of a register without deposits
pub record IsNewRegister (text : List ℕ) (db : Database) : Type 0 where
  pub schema : db.schema ≡ register_schema
  pub sound : IsDatabase db
  pub meta : IsPermutation (meta_columns 2 text) (map columns_3 (db.trees 0))
  pub deposits : db.trees 2 ≡ []
  pub lines : db.trees 4 ≡ []
  pub steps : db.trees 6 ≡ []
  pub marks : db.trees 8 ≡ []

-- A register of no deposits, whose dictionary is these bytes.
pub record IsEmptyRegister (text : List ℕ) (db : Database) : Type 0 where
  pub dictionary : Entries
  pub register : IsRegister db dictionary []
  pub bytes : text_in db.trees ≡ text

-- On a clean disk the connection shows a register of no deposits, whose dictionary is these bytes.
abbrev pub ShowsEmptyRegister : List ℕ → State → Type 0
ShowsEmptyRegister text s = HasCleanDisk s → IsEmptyRegister text s.now

-- On a clean disk no deposit is committed.
abbrev pub HasNoDeposit : State → Type 0
HasNoDeposit s = HasCleanDisk s → deposits_in s.committed.trees ≡ []

-- What a crash within the making may leave beside what was there: a register of no deposits, and that only where there
-- was no table.
abbrev pub LeavesEmpty : State → List ℕ → Trees → Type 0
LeavesEmpty old text trees = (old.now.schema ≡ no_schema) × IsEmptyRegister text (tables trees)

-- No fault is forgotten, and a crash leaves what it left before or, where there was no table, a register of no
-- deposits.
abbrev pub SurvivesMaking : List ℕ → State → State → Type 0
SurvivesMaking text old new = Survives old new (LeavesEmpty old text)
