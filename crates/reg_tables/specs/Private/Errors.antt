-- Why the tables are not read or changed, and what a caller of the store is then answered.
use Rattle.std.specs.Prelude.{Bool, true, false, Result, Ok, Err}
use Rattle.reg_store.specs.declared.keep.KeepError.{KeepError}
use Rattle.reg_store.specs.declared.keep.KeepError.TheVariants as keep
use Rattle.reg_tables.specs.declared.error.AdoptError.{AdoptError}
use Rattle.reg_tables.specs.declared.error.AdoptError.TheVariants as adopt
use Rattle.reg_tables.specs.declared.error.TableError.{TableError}
use Rattle.reg_tables.specs.declared.error.TableError.TheVariants.{Store, NoMemory}

-- the error is that of the database
abbrev pub is_of_database : TableError → Bool
is_of_database Store = true
is_of_database NoMemory = false

-- the database failed in the call: the answer is `Store`
abbrev pub database_fails : {X : Type 0} → Result X TableError → Bool
database_fails (Ok x) = false
database_fails (Err e) = is_of_database e

-- what a call of the store is answered
abbrev pub keep_error : TableError → KeepError
keep_error Store = keep.Store
keep_error NoMemory = keep.NoMemory

abbrev pub keep_answer : {X : Type 0} → Result X TableError → Result X KeepError
keep_answer (Ok x) = Ok x
keep_answer (Err e) = Err (keep_error e)

-- what the opening of a register is answered
abbrev pub adopt_error : TableError → AdoptError
adopt_error Store = adopt.Store
adopt_error NoMemory = adopt.NoMemory
