-- What is taken from a reader, and what is read of a file.
use Rattle.std.specs.Prelude.{◌≡◌, ℕ, ◌<◌, ◌≤◌, ◌⊎◌, ◌++◌, List, length, Option, Result, Ok, Err, IfOk, ⊤, Vec}
use Rattle.std.specs.Global.{Global}
use Rattle.std.specs.Io.KnownBytes.{Consumes, IsAtEnd}
use Rattle.ags_rows.specs.declared.TheConstants.{LIMIT}
use Rattle.ags_cli.specs.declared.error.Fault.{Fault}
use Rattle.ags_cli.specs.declared.error.Fault.TheVariants.{TooLarge, NoMemory, Stream}

-- the bytes that were taken are the first ones, and no more than `most`
pub record TakesAtMost (most : ℕ) (old new : Option (List ℕ)) : Type 0 where
  pub taken : List ℕ
  pub few : length taken ≤ most
  pub first : Consumes old new taken

-- the next bytes were taken and are at the list's end, `count` of them, none only at the end of the stream
pub record Appended (count : ℕ) (old new : Option (List ℕ)) (before after : List ℕ) : Type 0 where
  pub more : List ℕ
  pub joined : after ≡ before ++ more
  pub counted : length more ≡ count
  pub taken : Consumes old new more
  pub at_end : count ≡ 0 → IsAtEnd new

-- the same where the read went well
abbrev pub AppendedIfOk : Result ℕ Fault → Option (List ℕ) → Option (List ℕ) → List ℕ → List ℕ → Type 0
AppendedIfOk result old new before after = IfOk result (λ count. Appended count old new before after)

-- the fault is of a stream or of memory
abbrev pub IsOfReading : Fault → Type 0
IsOfReading fault = (fault ≡ NoMemory) ⊎ (fault ≡ Stream)

-- the bytes are all of the stream's, or there are too many
abbrev pub ReadsFile : List ℕ → Result (Vec ℕ Global) Fault → Type 0
ReadsFile all (Ok bytes) = bytes.items ≡ all
ReadsFile all (Err TooLarge) = LIMIT < length all
ReadsFile all (Err NoMemory) = ⊤
ReadsFile all (Err Stream) = ⊤
ReadsFile all (Err fault) = ⊥
