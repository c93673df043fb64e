-- What a call that changes the tables in a transaction of its own does, and what it leaves.
use Rattle.std.specs.Prelude.{◌≡◌, ◌⊎◌, false, IsTrue, Result, OnOk, OnErr}
use Rattle.sqlite.specs.Effect.{Database, IsDatabase}
use Rattle.sqlite.specs.State.{State, HasCleanDisk, IsRolledBack, IsUnchanged}
use Rattle.reg_tables.specs.declared.error.TableError.{TableError}
use Rattle.reg_tables.specs.Private.Errors.{database_fails}
use Rattle.reg_tables.specs.Quiet.{IsUndone}

-- The change is made, and what it makes is a database.
pub record Makes (Change : Database → Database → Type 0) (old new : Database) : Type 0 where
  pub change : Change old new
  pub sound : IsDatabase new

-- On a clean disk, the change is made if the call was no error.
abbrev pub MakesIfOk : {A E : Type 0} → Result A E → (Database → Database → Type 0) → State → State → Type 0
MakesIfOk result Change old new = HasCleanDisk new → OnOk result (Change old.now new.now)

-- On a clean disk, all that is shown is committed if the call was no error.
abbrev pub CommitsAll : {A E : Type 0} → Result A E → State → Type 0
CommitsAll result new = HasCleanDisk new → OnOk result (new.committed ≡ new.now)

-- On a clean disk, the connection was open before an error that leaves it open.
abbrev pub WasOpenIfOpen : {A E : Type 0} → Result A E → State → State → Type 0
WasOpenIfOpen result old new = HasCleanDisk new → IsTrue new.is_open → OnErr result (IsTrue old.is_open)

-- On a clean disk, where the connection is open, nothing changed, or its transaction is rolled back.
abbrev pub StaysOrRollsBack : State → State → Type 0
StaysOrRollsBack old new = HasCleanDisk new → IsTrue new.is_open → IsUnchanged old new ⊎ IsRolledBack old new

-- On a clean disk, all is undone by an error that leaves the connection open.
abbrev pub UndoesIfOpen : {A E : Type 0} → Result A E → State → State → Type 0
UndoesIfOpen result old new = HasCleanDisk new → IsTrue new.is_open → OnErr result (IsUndone old new)

-- On a clean disk, all is undone by an error that is not `Store`.
abbrev pub UndoesUnlessFailed : {A : Type 0} → Result A TableError → State → State → Type 0
UndoesUnlessFailed result old new = HasCleanDisk new → database_fails result ≡ false → OnErr result (IsUndone old new)
