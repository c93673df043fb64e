-- What the opening of a register in files says of what the files held. The image stands for that: their bytes as they
-- were opened.
use Rattle.std.specs.Prelude.{◌≡◌, ◌≢◌, ℕ, List, Err, IsTrue}
use Rattle.sqlite.specs.Recovery.{Image}
use Rattle.sqlite.specs.Schema.{Schema}
use Rattle.sqlite.specs.Tree.{Trees}
use Rattle.sqlite.specs.Effect.{Database, IsDatabase}
use Rattle.sqlite.specs.State.{State, HasCleanDisk}
use Rattle.sqlite.specs.Files.{AreFoundIn, HoldsDatabase}
use Rattle.ags_dict.specs.Entries.{Entries}
use Rattle.reg_tables.specs.declared.error.AdoptError.{AdoptError}
use Rattle.reg_store.specs.Deposit.{Deposit}
use Rattle.reg_tables.specs.declared.schema.format.Format.{Format}
use Rattle.reg_tables.specs.declared.schema.format.Format.TheVariants.{First, Second}
use Rattle.reg_tables.specs.Tables.{no_schema}
use Rattle.reg_tables.specs.Register.{IsRegister, deposits_in, text_in}
use Rattle.reg_tables.specs.Adoption.{Adopts}

-- An open finds these tables: those that the files recover to, or none where the files hold nothing; a database that
-- the files hold is no other.
pub record FindsTables (image : Image) (trees : Trees) : Type 0 where
  pub found : AreFoundIn image trees
  pub only : (held : Trees) → HoldsDatabase image held → trees ≡ held

-- An open finds a register of this list, whose dictionary is these bytes.
pub record HoldsRegister (image : Image) (dictionary : Entries) (text : List ℕ) (list : List Deposit) : Type 0 where
  pub db : Database
  pub found : FindsTables image db.trees
  pub register : IsRegister db dictionary list
  pub bytes : text_in db.trees ≡ text

-- On a clean disk, an open finds a register of this dictionary, and of the bytes and the list that the connection has
-- committed.
abbrev pub AdoptsFiles : Image → Entries → State → Type 0
AdoptsFiles image dictionary s = HasCleanDisk s
    → ∥ HoldsRegister image dictionary (text_in s.committed.trees) (deposits_in s.committed.trees) ∥₁

-- On a clean disk the connection, where it is open, shows the tables that an open finds, and has committed no others.
abbrev pub ShowsFiles : Image → State → Type 0
ShowsFiles image s =
    HasCleanDisk s → IsTrue s.is_open → FindsTables image s.now.trees × (s.committed ≡ s.now)

-- An open finds a sound database, and this is what it is answered where a register of this format is looked for.
pub record RefusesFiles (format : Format) (image : Image) (error : AdoptError) : Type 0 where
  pub db : Database
  pub sound : IsDatabase db
  pub found : FindsTables image db.trees
  pub refused : Adopts format db (Err error)

-- The same, where a register is opened.
abbrev pub RefusesOpening : Image → AdoptError → Type 0
RefusesOpening = RefusesFiles Second

-- The same, where one of format 1 is migrated.
abbrev pub RefusesMigration : Image → AdoptError → Type 0
RefusesMigration = RefusesFiles First

-- An open finds a sound database, and this holds of its tables, indexes and views.
pub record FindsSchema (image : Image) (Has : Schema → Type 0) : Type 0 where
  pub db : Database
  pub sound : IsDatabase db
  pub found : FindsTables image db.trees
  pub has : Has db.schema

-- On a clean disk, an open finds a sound database without a table, an index and a view.
abbrev pub FindsEmpty : Image → State → Type 0
FindsEmpty image s = HasCleanDisk s → FindsSchema image (λ schema. schema ≡ no_schema)

-- On a clean disk, an open finds a sound database with a table, an index or a view.
abbrev pub FindsNotEmpty : Image → State → Type 0
FindsNotEmpty image s = HasCleanDisk s → FindsSchema image (λ schema. schema ≢ no_schema)
