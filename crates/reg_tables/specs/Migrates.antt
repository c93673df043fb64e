-- A register of format 1 that becomes one of format 2, with the same dictionary, byte by byte, and the same deposits.
use Rattle.std.specs.Prelude.{◌≡◌, ℕ, [], List, map, length}
use Rattle.sqlite.specs.Recovery.{Image}
use Rattle.sqlite.specs.Tree.{Trees}
use Rattle.sqlite.specs.Effect.{Database, IsDatabase}
use Rattle.sqlite.specs.State.{State, HasCleanDisk, Survives}
use Rattle.ags_dict.specs.Entries.{Entries}
use Rattle.reg_store.specs.Sent.{Sent}
use Rattle.reg_store.specs.Deposit.{Deposit, new_deposit}
use Rattle.reg_tables.specs.declared.error.AdoptError.{AdoptError}
use Rattle.reg_tables.specs.declared.error.AdoptError.TheVariants.{Store}
use Rattle.reg_tables.specs.declared.schema.format.Format.TheVariants.{First}
use Rattle.reg_tables.specs.declared.memory.Memory.{Memory}
use Rattle.reg_tables.specs.Tables.{register_schema}
use Rattle.reg_tables.specs.Private.Memory.{Agrees}
use Rattle.reg_tables.specs.Opened.{FindsTables}
use Rattle.reg_tables.specs.Register.{HoldsSent, IsRegister, IsRegisterOf, deposits_in, sents_in, tables, text_in}

-- There is a table of marks without a row, and the other tables are as they were but for meta.
pub record AddsWithdrawals (old new : Database) : Type 0 where
  pub schema : new.schema ≡ register_schema
  pub sound : IsDatabase new
  pub deposits : new.trees 2 ≡ old.trees 2
  pub lines : new.trees 4 ≡ old.trees 4
  pub steps : new.trees 6 ≡ old.trees 6
  pub marks : new.trees 8 ≡ []

-- Whatever was sent in a register of format 1, the new tables are a register of it, without a mark. The dictionary's
-- bytes are those from before.
pub record Migrates (old new : Database) : Type 0 where
  pub register : (dictionary : Entries) (list : List Sent) → HoldsSent First old dictionary list
      → IsRegister new dictionary (map new_deposit list)
  pub bytes : text_in old.trees ≡ text_in new.trees

-- On a clean disk, the tables from before are a register of format 1, of this dictionary, and of the list and the
-- dictionary's bytes that are now committed.
abbrev pub MigratesRegister : Entries → State → State → Type 0
MigratesRegister dictionary old new = HasCleanDisk new
    → ∥ IsRegisterOf First old.now dictionary (deposits_in new.committed.trees) ∥₁
    × (text_in old.now.trees ≡ text_in new.committed.trees)

-- The tables from before are a register of format 1, and these are one of format 2, of one dictionary, byte by byte,
-- and one list.
abbrev pub MigratedOf : State → Trees → Type 0
MigratedOf old trees = (dictionary : Entries) × (list : List Deposit)
    × IsRegisterOf First old.now dictionary list × IsRegister (tables trees) dictionary list
    × (text_in old.now.trees ≡ text_in trees)

abbrev pub IsMigrated : State → Trees → Type 0
IsMigrated old trees = ∥ MigratedOf old trees ∥₁

-- No fault is forgotten, and a crash leaves what it left before, or the register of format 1 as one of format 2.
abbrev pub SurvivesMigration : State → State → Type 0
SurvivesMigration old new = Survives old new (IsMigrated old)

-- The same, where only the refusal `Store` may leave more than was left before.
abbrev pub SurvivesRefusedMigration : AdoptError → State → State → Type 0
SurvivesRefusedMigration error old new = Survives old new (λ trees. (error ≡ Store) × IsMigrated old trees)

-- The tables hold so many deposits, in format 1.
abbrev pub HoldsFirst : Database → Entries → ℕ → Type 0
HoldsFirst db dictionary count = (list : List Sent) × HoldsSent First db dictionary list × (length list ≡ count)

-- The tables hold what was sent, in format 1, and the memory agrees with it, without a mark.
pub record RecallsFirst (db : Database) (dictionary : Entries) (memory : Memory) : Type 0 where
  pub sent : ∥ HoldsFirst db dictionary (length memory.known.items) ∥₁
  pub agrees : Agrees memory dictionary (map new_deposit (sents_in db.trees))

-- An open finds a register of format 1, of this list, whose dictionary is these bytes.
pub record FindsFirst (image : Image) (dictionary : Entries) (text : List ℕ) (list : List Deposit) : Type 0 where
  pub db : Database
  pub found : FindsTables image db.trees
  pub register : IsRegisterOf First db dictionary list
  pub bytes : text_in db.trees ≡ text

-- On a clean disk, an open finds a register of format 1, of this dictionary, and of the bytes and the list that the
-- connection has committed.
abbrev pub MigratesFiles : Image → Entries → State → Type 0
MigratesFiles image dictionary s = HasCleanDisk s
    → ∥ FindsFirst image dictionary (text_in s.committed.trees) (deposits_in s.committed.trees) ∥₁
