-- What is said of a command that has no answer, and its status.
use Rattle.std.specs.Prelude.{ℕ, ℤ, List, ◌++◌, codes}
use Rattle.std.specs.Fmt.{signed_decimal}
use Rattle.std.specs.declared.io.Write.{Ghosts as WriteGhosts}
use Rattle.ags_cli.specs.Faults.{TellsTo, fault_text, fault_status}
use Rattle.ags_cli.specs.declared.error.Fault.TheVariants.{PolicyRefused, CallersRefused}
use Rattle.reg_cli.specs.declared.error.Failure.{Failure}
use Rattle.reg_cli.specs.declared.error.Failure.TheVariants.{Plain, Policy, Callers, CannotRead, CannotWrite, Version, CannotListen}
use Rattle.ags_cli.specs.declared.watched.Watched.{Watched}

-- the file at a path can not be read
abbrev pub unread_text : List ℕ → List ℕ
unread_text path = codes "groundreg: cannot read " ++ (path ++ codes "\n")

-- the file at a path can not be written
abbrev pub unwritten_text : List ℕ → List ℕ
unwritten_text path = codes "groundreg: cannot write " ++ (path ++ codes "\n")

-- the register has a format of this number
abbrev pub version_text : ℤ → List ℕ
version_text number = codes "groundreg: register version " ++ (signed_decimal number ++ codes "\n")

-- the failure was reported, and the run ends with its status, or the writer has failed
abbrev pub TellsFailure : {W : Type 0} → WriteGhosts W → Failure → Watched W → Watched W → ℕ → Type 0
TellsFailure writer (Plain fault) old new ended = TellsTo writer old new (fault_text fault) (fault_status fault) ended
TellsFailure writer (Policy _) old new ended = TellsTo writer old new (fault_text PolicyRefused) (fault_status PolicyRefused) ended
TellsFailure writer (Callers _) old new ended = TellsTo writer old new (fault_text CallersRefused) (fault_status CallersRefused) ended
TellsFailure writer (CannotRead path) old new ended = TellsTo writer old new (unread_text path.now) 6 ended
TellsFailure writer (CannotWrite path) old new ended = TellsTo writer old new (unwritten_text path.now) 6 ended
TellsFailure writer (Version number) old new ended = TellsTo writer old new (version_text number) 4 ended
TellsFailure writer CannotListen old new ended = TellsTo writer old new (codes "groundreg: cannot listen\n") 6 ended
