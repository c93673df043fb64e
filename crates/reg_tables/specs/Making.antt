-- What a refusal to make a register says of the bytes that were given as its dictionary.
use Rattle.std.specs.Prelude.{◌≡◌, ◌≢◌, ℕ, List, Err}
use Rattle.sqlite.specs.State.{State, Survives}
use Rattle.ags_dict.specs.declared.reading.DictError.TheVariants as dict
use Rattle.ags_dict.specs.Entries.{Entries}
use Rattle.ags_dict.specs.Reading.{IsDictionary, ReadsDictionary}
use Rattle.reg_tables.specs.declared.error.CreateError.{CreateError}
use Rattle.reg_tables.specs.declared.error.CreateError.TheVariants.{Dictionary, NotEmpty, Store, NoMemory}
use Rattle.reg_tables.specs.Creates.{LeavesEmpty}

-- The bytes are a dictionary.
abbrev pub AreDictionary : List ℕ → Type 0
AreDictionary bytes = (entries : Entries) × IsDictionary bytes entries

-- The bytes are refused with just this error; or they are a dictionary, and the database is refused; or memory was,
-- which says nothing of them.
abbrev pub RefusesBytes : List ℕ → CreateError → Type 0
RefusesBytes bytes (Dictionary error) = ReadsDictionary bytes (Err error) × (error ≢ dict.NoMemory)
RefusesBytes bytes NotEmpty = AreDictionary bytes
RefusesBytes bytes Store = AreDictionary bytes
RefusesBytes bytes NoMemory = Unit {0}

-- No fault is forgotten, and a crash leaves what it left before; or, where the refusal is `Store` and there was no
-- table, a register of no deposits.
abbrev pub SurvivesRefusal : CreateError → List ℕ → State → State → Type 0
SurvivesRefusal error bytes old new = Survives old new (λ trees. (error ≡ Store) × LeavesEmpty old bytes trees)
