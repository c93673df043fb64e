-- The failures that are reported where no register is made, opened or migrated.
use Rattle.std.specs.Prelude.{◌≡◌}
use Rattle.ags_cli.specs.declared.error.Fault.TheVariants as faults
use Rattle.reg_cli.specs.declared.error.Failure.{Failure}
use Rattle.reg_cli.specs.declared.error.Failure.TheVariants.{Plain, Version}
use Rattle.reg_tables.specs.declared.error.AdoptError.{AdoptError}
use Rattle.reg_tables.specs.declared.error.AdoptError.TheVariants as adopts
use Rattle.reg_tables.specs.declared.error.CreateError.{CreateError}
use Rattle.reg_tables.specs.declared.error.CreateError.TheVariants as creates

-- why a store holds no register that can be opened, or migrated
abbrev pub adopting : AdoptError → Failure
adopting adopts.NotRegister = Plain faults.NotRegister
adopting (adopts.Version number) = Version number
adopting adopts.Store = Plain faults.StoreFailed
adopting adopts.NoMemory = Plain faults.NoMemory

-- why no register is made
abbrev pub not_made : CreateError → Failure
not_made (creates.Dictionary error) = Plain faults.DictionaryRefused
not_made creates.NotEmpty = Plain faults.StoreNotEmpty
not_made creates.Store = Plain faults.StoreFailed
not_made creates.NoMemory = Plain faults.NoMemory

-- the failure is that of an error of which this holds
abbrev pub Reports : {E : Type 0} → (E → Failure) → Failure → (E → Type 0) → Type 0
Reports {E} reported failure Holds = (error : E) × (failure ≡ reported error) × Holds error
