-- What a query of a register needs of its connection, and what it leaves.
use Rattle.std.specs.Prelude.{◌≡◌, ◌⊎◌, [], Bool, false, IsTrue, Result, IfOk}
use Rattle.sqlite.specs.Effect.{Database}
use Rattle.sqlite.specs.State.{State, HasCleanDisk, Survives}
use Rattle.reg_tables.specs.Tables.{HasTables}

-- No transaction runs, and the first tables are those of a register, as the last commit left them.
pub record IsIdle (s : State) : Type 0 where
  pub idle : s.in_transaction ≡ false
  pub schema : HasCleanDisk s → HasTables s.now.schema
  pub settled : HasCleanDisk s → IsTrue s.is_open → s.committed ≡ s.now

-- While the connection is open, it shows what was committed.
abbrev pub IsSettled : State → Type 0
IsSettled s = IsTrue s.is_open → s.committed ≡ s.now

-- It shows what was committed before, no more is committed, and there is no savepoint.
abbrev pub IsUndone : State → State → Type 0
IsUndone old new = (new.now ≡ old.committed) × (new.committed ≡ old.committed) × (new.marks ≡ [])

-- It shows what it showed, and what is committed is what was. The savepoints are those that there were; where no
-- transaction ran, there may be none.
abbrev pub ShowsTheSame : State → State → Type 0
ShowsTheSame old new =
    (new.now ≡ old.now) × (new.committed ≡ old.committed)
    × ((new.marks ≡ old.marks) ⊎ ((old.in_transaction ≡ false) × (new.marks ≡ [])))

-- The connection is open if it was, in a transaction if it was, and it shows the same.
abbrev pub IsTheSame : State → State → Type 0
IsTheSame old new =
    (new.is_open ≡ old.is_open) × (new.in_transaction ≡ old.in_transaction) × ShowsTheSame old new

-- The connection was open, and it shows the same.
abbrev pub IsAsBefore : State → State → Type 0
IsAsBefore old new = IsTrue old.is_open × ShowsTheSame old new

-- On a clean disk the connection is open if it was, in a transaction if it was, and it shows the same.
abbrev pub StaysIfClean : State → State → Type 0
StaysIfClean old new = HasCleanDisk new → IsTheSame old new

-- On a clean disk the connection is as before, where it is open.
abbrev pub StaysIfOpen : State → State → Type 0
StaysIfOpen old new = HasCleanDisk new → IsTrue new.is_open → IsAsBefore old new

-- On a clean disk, if the call was no error, what P says of the tables before it and of its answer.
abbrev pub FindsThat : {A E : Type 0} → Result A E → (Database → A → Type 0) → State → State → Type 0
FindsThat result P old new = HasCleanDisk new → IfOk result (λ found. P old.now found)

-- Nothing was committed. Where the call did not fail nothing changed, nor where the connection is still open.
pub record IsStill (old new : State) (failed : Bool) : Type 0 where
  pub idle : new.in_transaction ≡ false
  pub is_open : HasCleanDisk new → failed ≡ false → new.is_open ≡ old.is_open
  pub same : HasCleanDisk new → failed ≡ false → ShowsTheSame old new
  pub still : HasCleanDisk new → IsTrue new.is_open → IsAsBefore old new
  pub survives : Survives old new (λ _. ⊥)
