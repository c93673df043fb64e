-- What the adopting of a register answers.
use Rattle.std.specs.Prelude.{◌≡◌, ◌≢◌, ◌≤◌, ℕ, ℤ, pos, Bool, true, false, List, length, Option, Some, None, Result, Ok}
use Rattle.std.specs.Prelude.{Err, Contains}
use Rattle.std.specs.declared.alloc.Global.{Global}
use Rattle.std.specs.declared.vec.Vec.{Vec}
use Rattle.std.specs.List.Sorted.{IsPermutation}
use Rattle.sqlite.specs.Order.{Row}
use Rattle.sqlite.specs.Effect.{Database}
use Rattle.sqlite.specs.State.{State, HasCleanDisk}
use Rattle.ags_rows.specs.declared.TheConstants.{READABLE}
use Rattle.ags_dict.specs.Entries.{Entries}
use Rattle.ags_dict.specs.Reading.{IsDictionary}
use Rattle.reg_tables.specs.declared.error.AdoptError.{AdoptError}
use Rattle.reg_tables.specs.declared.error.AdoptError.TheVariants.{NotRegister, Version, Store, NoMemory}
use Rattle.reg_store.specs.Sent.{Sent}
use Rattle.reg_store.specs.Deposit.{Deposit}
use Rattle.reg_tables.specs.declared.schema.format.Format.{Format}
use Rattle.reg_tables.specs.declared.schema.format.Format.TheVariants.{Second}
use Rattle.reg_tables.specs.Tables.{format_number, schema_of}
use Rattle.reg_tables.specs.Formats.{HasFormat, IsFormatRow}
use Rattle.reg_tables.specs.Register.{HoldsSent, IsRegister, IsRegisterOf, deposits_in, mark_rows, mark_table}
use Rattle.reg_tables.specs.Register.{meta_columns, text_in}
use Rattle.reg_tables.specs.Whole.{HasMeta}

-- The refusal is that of the store.
abbrev pub is_store_failure : AdoptError → Bool
is_store_failure Store = true
is_store_failure NotRegister = false
is_store_failure (Version n) = false
is_store_failure NoMemory = false

abbrev pub gives_up : {X : Type 0} → Result X AdoptError → Bool
gives_up (Ok x) = false
gives_up (Err e) = is_store_failure e

-- The rows of meta, ordered by name, are those of the format of this number, and the dictionary's bytes read as these
-- entries.
abbrev pub ReadsAs : ℕ → List Row → Entries → Type 0
ReadsAs number rows dictionary =
    (text : List ℕ) × (rows ≡ meta_columns number text) × (length text ≤ READABLE) × IsDictionary text dictionary

-- The bytes are too long for the dictionary of a register, or they are no dictionary.
abbrev pub AreNoKeptDictionary : List ℕ → Type 0
AreNoKeptDictionary text = (dictionary : Entries) → length text ≤ READABLE → IsDictionary text dictionary → ⊥

-- A row `format` with this number is among the rows of meta.
abbrev pub HasFormatRow : List Row → ℤ → Type 0
HasFormatRow rows n = (row : Row) × Contains rows row × IsFormatRow n row

-- What the rows of meta are answered: another number of the format comes before anything else.
abbrev pub ReadsMeta : ℕ → List Row → Result Entries AdoptError → Type 0
ReadsMeta number rows (Ok dictionary) = ReadsAs number rows dictionary
ReadsMeta number rows (Err (Version n)) = (n ≢ pos number) × HasFormatRow rows n
ReadsMeta number rows (Err NotRegister) =
    ((n : ℤ) → HasFormatRow rows n → n ≡ pos number) × ((dictionary : Entries) → ReadsAs number rows dictionary → ⊥)
ReadsMeta number rows (Err Store) = ⊥
ReadsMeta number rows (Err NoMemory) = Unit {0}

-- The row `format` has this number, or there is no such row.
abbrev pub HasNoOtherFormat : ℕ → Database → Type 0
HasNoOtherFormat number db = (n : ℤ) → HasFormat db n → n ≡ pos number

-- What meta is answered.
abbrev pub MetaOf : ℕ → Database → Result Entries AdoptError → Type 0
MetaOf number db (Ok dictionary) = HasMeta number db dictionary
MetaOf number db (Err (Version n)) = (n ≢ pos number) × HasFormat db n
MetaOf number db (Err NotRegister) =
    HasNoOtherFormat number db × ((dictionary : Entries) → HasMeta number db dictionary → ⊥)
MetaOf number db (Err Store) = Unit {0}
MetaOf number db (Err NoMemory) = Unit {0}

-- How many deposits the register of a dictionary has, where the tables hold what was sent of some.
abbrev pub CountsDeposits : Format → Database → Entries → Option ℕ → Type 0
CountsDeposits format db dictionary (Some count) =
    ∥ ((list : List Sent) × HoldsSent format db dictionary list × (length list ≡ count)) ∥₁
CountsDeposits format db dictionary None = (list : List Sent) → HoldsSent format db dictionary list → ⊥

-- This holds of each format whose tables the database has, and whose number with the dictionary meta has.
abbrev pub InEachFormat : Database → Entries → (Format → Type 0) → Type 0
InEachFormat db dictionary Holds =
    (format : Format) → db.schema ≡ schema_of format → HasMeta (format_number format) db dictionary → Holds format

-- What a database is answered in which what was sent is looked for, whatever the marks are.
abbrev pub Examines : Format → Database → Result (Entries × ℕ) AdoptError → Type 0
Examines format db (Ok found) = ∥ ((list : List Sent) × HoldsSent format db found.0 list × (length list ≡ found.1)) ∥₁
Examines format db (Err (Version n)) = (n ≢ pos (format_number format)) × HasFormat db n
Examines format db (Err NotRegister) = HasNoOtherFormat (format_number format) db
    × ((dictionary : Entries) (list : List Sent) → HoldsSent format db dictionary list → ⊥)
Examines format db (Err Store) = Unit {0}
Examines format db (Err NoMemory) = Unit {0}

-- The table `withdrawals` holds the marks of so many deposits.
abbrev pub HoldsMarks : ℕ → Database → List Bool → Type 0
HoldsMarks count db marks = (length marks ≡ count) × IsPermutation (mark_rows 1 marks) (mark_table Second db.trees)

-- What the marks of so many deposits are answered.
abbrev pub FindsMarks : ℕ → Database → Result (Vec Bool Global) AdoptError → Type 0
FindsMarks count db (Ok marks) = HoldsMarks count db marks.items
FindsMarks count db (Err NotRegister) = (marks : List Bool) → HoldsMarks count db marks → ⊥
FindsMarks count db (Err (Version n)) = ⊥
FindsMarks count db (Err Store) = Unit {0}
FindsMarks count db (Err NoMemory) = Unit {0}

-- What a database is answered. The tables are a register of this format, of this dictionary and of so many deposits; or
-- the row `format` has another number, whatever else is wrong; or it has no other number, and the tables are a register
-- of this format of no list.
abbrev pub Adopts : Format → Database → Result (Entries × ℕ) AdoptError → Type 0
Adopts format db (Ok found) =
    ∥ ((list : List Deposit) × IsRegisterOf format db found.0 list × (length list ≡ found.1)) ∥₁
Adopts format db (Err (Version n)) = (n ≢ pos (format_number format)) × HasFormat db n
Adopts format db (Err NotRegister) = HasNoOtherFormat (format_number format) db
    × ((dictionary : Entries) (list : List Deposit) → IsRegisterOf format db dictionary list → ⊥)
Adopts format db (Err Store) = Unit {0}
Adopts format db (Err NoMemory) = Unit {0}

-- On a clean disk, the tables from before are a register of this dictionary, and of the list and the dictionary's bytes
-- that are committed now.
abbrev pub AdoptsRegister : Entries → State → State → Type 0
AdoptsRegister dictionary old new = HasCleanDisk new
    → ∥ IsRegister old.now dictionary (deposits_in new.committed.trees) ∥₁
    × (text_in old.now.trees ≡ text_in new.committed.trees)
