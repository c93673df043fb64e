-- What serving one connection does.
use Rattle.std.specs.Prelude.{◌≡◌, ◌⊎◌, ℕ, ℤ, ◌+◌, ◌≤◌, ◌<◌, Bool, true, false, List, [], length, take, Option, Result}
use Rattle.std.specs.Prelude.{Ok, Err, ⊤}
use Rattle.std.specs.Io.KnownBytes.{Appends}
use Rattle.httparse.specs.Grammar.{RequestHead}
use Rattle.reg_policy.specs.declared.callers.Credential.{Credential}
use Rattle.reg_http.specs.Asks.{Asking, ask_of, asked_with}
use Rattle.reg_desk.specs.Asked.{Asked}
use Rattle.reg_http.specs.Heads.{HasNoHead, IsHead, longest_head}
use Rattle.reg_http.specs.HeadParts.{head_parts}
use Rattle.reg_http.specs.Reading.{ReadAs, nothing, refusal, request}
use Rattle.reg_http.specs.Rendering.{IsRendered, answer_status, is_fixed, rendered, status_of}
use Rattle.reg_http.specs.declared.error.Refusal.{Refusal}
use Rattle.reg_http.specs.declared.error.Refusal.TheVariants.{OutOfMemory, ShortBody}
use Rattle.reg_desk.specs.declared.answer.Answer.{Answer}
use Rattle.reg_http.specs.declared.connection.Served.{Served}
use Rattle.reg_http.specs.declared.error.IoFault.{IoFault}
use Rattle.reg_http.specs.declared.error.IoFault.TheVariants as fault

-- the text was written whole, and the status is given; or a first part of it, where the writer failed
abbrev pub Written : Option (List ℕ) → Option (List ℕ) → List ℕ → ℕ → Result Served IoFault → Type 0
Written old new text status (Ok served) = Appends old new text × (served.status ≡ status)
Written old new text status (Err fault.Write) = (n : ℕ) × (n ≤ length text) × Appends old new (take n text)
Written old new text status (Err fault.Read) = ⊥

-- a read failed, a write failed
abbrev pub is_read : Result Served IoFault → Bool
is_read (Ok s) = false
is_read (Err fault.Read) = true
is_read (Err fault.Write) = false

abbrev pub is_write : Result Served IoFault → Bool
is_write (Ok s) = false
is_write (Err fault.Read) = false
is_write (Err fault.Write) = true

-- the answer's reply was written, or that memory ran out
abbrev pub ServesAnswer : Answer → Option (List ℕ) → Option (List ℕ) → Result Served IoFault → Type 0
ServesAnswer answer before after r =
    ((text : List ℕ) × IsRendered answer text × Written before after text (answer_status answer) r)
    ⊎ ((is_fixed answer ≡ false) × Written before after (rendered OutOfMemory) (status_of OutOfMemory) r)

-- the desk answered, and that was written
abbrev pub ServesRequest : {D : Type 0} → (D → Asked → Answer → D → Type 0) → Asked → D → D
    → Option (List ℕ) → Option (List ℕ) → Result Served IoFault → Type 0
ServesRequest answers asked old new before after r =
    (answer : Answer) × answers old asked answer new × ServesAnswer answer before after r

-- the body came and the desk was asked, or it ended early, or memory ran out; all is what came after the head
abbrev pub ServesAsked : {D : Type 0} → (D → Asked → Answer → D → Type 0) → Asking → ℤ → List ℕ → D → D
    → Option (List ℕ) → Option (List ℕ) → Result Served IoFault → Type 0
ServesAsked answers a day all old new before after (Err fault.Read) = ⊤
ServesAsked answers a day all old new before after r =
    ((a.length ≤ length all) × ServesRequest answers (asked_with a (take a.length all) day) old new before after r)
    ⊎ ((length all < a.length) × (new ≡ old) × Written before after (rendered ShortBody) (status_of ShortBody) r)
    ⊎ ((new ≡ old) × Written before after (rendered OutOfMemory) (status_of OutOfMemory) r)

module _ {D : Type 0} (answers : D → Asked → Answer → D → Type 0)
    (callers : List Credential) (day : ℤ) (bytes : List ℕ) where
  -- The ways of a connection: the desk before and after, the text to be written, and its status. The engine can be out
  -- of memory at a head before the desk is called, or where the reply to its answer is built.
  pub data Exchange : D → D → List ℕ → ℕ → Type 0 where
    silent : {d : D} → ReadAs callers day bytes nothing → Exchange d d [] 0
    refused : {d : D} (r : Refusal) → ReadAs callers day bytes (refusal r) → Exchange d d (rendered r) (status_of r)
    answered : {d e : D} (asked : Asked) (answer : Answer) (text : List ℕ) → ReadAs callers day bytes (request asked)
        → answers d asked answer e → IsRendered answer text → Exchange d e text (answer_status answer)
    no_memory : {d : D} (h : RequestHead) (rest : List ℕ) → IsHead bytes h rest
        → Exchange d d (rendered OutOfMemory) (status_of OutOfMemory)
    unwritten : {d e : D} (asked : Asked) (answer : Answer) → ReadAs callers day bytes (request asked)
        → answers d asked answer e → is_fixed answer ≡ false
        → Exchange d e (rendered OutOfMemory) (status_of OutOfMemory)

  -- one of these ways, and its text written
  abbrev pub ServesOne : D → D → Option (List ℕ) → Option (List ℕ) → Result Served IoFault → Type 0
  ServesOne old new before after (Err fault.Read) = ⊤
  ServesOne old new before after r =
      (text : List ℕ) × (status : ℕ) × Exchange old new text status × Written before after text status r

-- how many reads a body takes at most: none where the head is refused, else one for each byte, and one for the end
abbrev pub body_reads : Result Asking Refusal → ℕ
body_reads (Ok a) = a.length + 1
body_reads (Err r) = 0

-- How many reads are made: after bytes that are no head, or after a head that is refused, no more than a head may
-- have bytes; of a request as many more as its body has bytes, and one for the end.
pub record WaitsFor (callers : List Credential) (day : ℤ) (bytes : List ℕ) (reads : ℕ) : Type 0 where
  pub headless : HasNoHead bytes → reads ≤ longest_head
  pub headed : (h : RequestHead) (rest : List ℕ) → IsHead bytes h rest
      → reads ≤ longest_head + body_reads (ask_of callers day (head_parts h))
