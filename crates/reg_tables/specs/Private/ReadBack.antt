-- What the tables of a register say of its list.
use Rattle.std.proofs.Common.{◌≡◌, List}
use Rattle.sqlite.specs.Effect.{Database}
use Rattle.ags_dict.specs.Entries.{Entries}
use Rattle.reg_store.specs.Deposit.{Deposit}
use Rattle.reg_tables.specs.Private.Marks.{tables_back}
use Rattle.reg_tables.specs.Register.{deposits_in, IsRegister}

-- The deposits in the tables of a register are its list.
pub read_back : (db : Database) {dictionary : Entries} (list : List Deposit) → IsRegister db dictionary list
    → deposits_in db.trees ≡ list
read_back db list is = tables_back db.trees list is.holds.deposits is.marks
