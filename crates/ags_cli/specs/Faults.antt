-- What is said, on standard error, of a run that has no answer, and its status.
use Rattle.std.specs.Prelude.{◌≡◌, ℕ, ◌⊎◌, List, codes, Option, Result, Ok, Err, Bool, true, false}
use Rattle.std.specs.Io.KnownBytes.{Appends}
use Rattle.std.specs.declared.io.Write.{Ghosts as WriteGhosts}
use Rattle.ags_cli.specs.Streams.{has_failed, inner_of}
use Rattle.ags_cli.specs.Writing.{TakesPart}
use Rattle.ags_cli.specs.declared.error.Fault.{Fault}
use Rattle.ags_cli.specs.declared.watched.Watched.{Watched}
use Rattle.ags_cli.specs.declared.error.Fault.TheVariants.{WordsRefused, PolicyRefused, CallersRefused, TokenRefused}
use Rattle.ags_cli.specs.declared.error.Fault.TheVariants.{ProjectRefused, DayRefused, GroupsRefused, NumberRefused}
use Rattle.ags_cli.specs.declared.error.Fault.TheVariants.{DictionaryRefused, TooLarge, StoreNotEmpty, NotRegister}
use Rattle.ags_cli.specs.declared.error.Fault.TheVariants.{StoreFailed, NoMemory, Stream}

-- the text; nothing is said of a stream that failed
abbrev pub fault_text : Fault → List ℕ
fault_text WordsRefused = codes "groundreg: words refused\n"
fault_text PolicyRefused = codes "groundreg: policy refused\n"
fault_text CallersRefused = codes "groundreg: callers refused\n"
fault_text TokenRefused = codes "groundreg: token refused\n"
fault_text ProjectRefused = codes "groundreg: project refused\n"
fault_text DayRefused = codes "groundreg: day refused\n"
fault_text GroupsRefused = codes "groundreg: groups refused\n"
fault_text NumberRefused = codes "groundreg: number refused\n"
fault_text DictionaryRefused = codes "groundreg: dictionary refused\n"
fault_text TooLarge = codes "groundreg: too large\n"
fault_text StoreNotEmpty = codes "groundreg: store not empty\n"
fault_text NotRegister = codes "groundreg: not a register\n"
fault_text StoreFailed = codes "groundreg: store failed\n"
fault_text NoMemory = codes "groundreg: out of memory\n"
fault_text Stream = codes ""

-- the status
abbrev pub fault_status : Fault → ℕ
fault_status StoreFailed = 5
fault_status NoMemory = 5
fault_status Stream = 6
fault_status _ = 4

-- the writer has taken all of the text and the run ends with the status, or the writer has failed
abbrev pub Tells : Option (List ℕ) → Option (List ℕ) → List ℕ → Bool → Bool → ℕ → ℕ → Type 0
Tells old new text before after status ended =
    (Appends old new text × (after ≡ before) × (ended ≡ status))
    ⊎ (TakesPart old new text × (after ≡ true) × (ended ≡ fault_status Stream))

-- the same of a watched writer
abbrev pub TellsTo : {W : Type 0} → WriteGhosts W → Watched W → Watched W → List ℕ → ℕ → ℕ → Type 0
TellsTo writer old new text status ended =
    Tells (writer.contents (inner_of old)) (writer.contents (inner_of new)) text
    (has_failed old) (has_failed new) status ended

-- the fault is that of a stream
abbrev pub is_stream : Fault → Bool
is_stream Stream = true
is_stream fault = false

-- the result is the fault of a stream
abbrev pub is_stream_fault : {T : Type 0} → Result T Fault → Bool
is_stream_fault (Ok value) = false
is_stream_fault (Err fault) = is_stream fault

-- the status where a text was written, or that of a stream that failed
abbrev pub ended_with : {T E : Type 0} → Result T E → ℕ → ℕ
ended_with (Ok value) status = status
ended_with (Err error) status = fault_status Stream
