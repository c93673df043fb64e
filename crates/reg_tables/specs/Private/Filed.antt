-- What is filed, as a deposit, and its adding.
use Rattle.std.specs.Prelude.{ℕ, ℤ, List, Result, pos}
use Rattle.sqlite.specs.Effect.{Database}
use Rattle.sqlite.specs.State.{State, Survives}
use Rattle.ags_check.specs.Findings.{CheckedFile}
use Rattle.reg_tables.specs.declared.write.filed.Filed.{Filed}
use Rattle.reg_store.specs.Sent.{Sent}
use Rattle.reg_store.specs.Fit.{kept_rows}
use Rattle.reg_tables.specs.Rows.{deposit_from}
use Rattle.reg_tables.specs.Private.Inserts.{AddsDeposit, AddsFile}
use Rattle.reg_tables.specs.Private.KeepLaws.{PutsOf}
use Rattle.reg_tables.specs.Private.Commits.{MakesIfOk, Makes}

-- what is filed, as a deposit
abbrev pub filed_deposit : Filed → Sent
filed_deposit filed =
    record { firm = filed.firm.now; project = filed.project.now; embargo = pos filed.embargo; bytes = filed.body.now }

-- The deposit is added under its number.
abbrev pub AddsRow : Filed → Database → Database → Type 0
AddsRow filed = AddsDeposit filed.number (filed_deposit filed)

-- the deposit is added under its number, with its rows and steps
abbrev pub AddsFiled : Filed → Database → Database → Type 0
AddsFiled filed = AddsFile filed.number (filed_deposit filed) filed.rows.now filed.steps.now

-- On a clean disk, if the call was no error, a checked file is added as a deposit under this number.
abbrev pub AddsChecked : {A E : Type 0} → Result A E → ℕ → List ℕ → List ℕ → ℤ → CheckedFile → State → State → Type 0
AddsChecked result n firm project embargo file =
    MakesIfOk result
    (Makes (AddsFile n (deposit_from firm project embargo file.bytes) (kept_rows file.groups) file.graph.steps))

-- No fault is forgotten, and a crash leaves what it left before, or the database with such a deposit.
abbrev pub SurvivesAdding : ℕ → List ℕ → List ℕ → ℤ → CheckedFile → State → State → Type 0
SurvivesAdding n firm project embargo file old new =
    Survives old new
    (PutsOf old n (deposit_from firm project embargo file.bytes) (kept_rows file.groups) file.graph.steps)
