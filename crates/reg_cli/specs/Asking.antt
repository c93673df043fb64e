-- What a command asks of the desk, and what is printed of the answer.
use Rattle.std.specs.Prelude.{◌≡◌, ℕ, List, Result, Ok, Err}
use Rattle.std.specs.declared.io.Write.{Ghosts as WriteGhosts}
use Rattle.reg_store.specs.declared.keep.Keep.{Ghosts as KeepGhosts}
use Rattle.reg_desk.specs.Asked.{Asked}
use Rattle.reg_desk.specs.Desks.{AnsweredBy}
use Rattle.reg_desk.specs.declared.answer.Answer.{Answer}
use Rattle.reg_desk.specs.declared.desk.Desk.{Desk}
use Rattle.ags_cli.specs.Faults.{TellsTo}
use Rattle.reg_cli.specs.Printing.{IsPrinted, exit_status}
use Rattle.ags_cli.specs.Streams.{has_failed, inner_of}
use Rattle.ags_cli.specs.declared.error.Fault.TheVariants.{NoMemory}
use Rattle.reg_cli.specs.declared.error.Failure.{Failure}
use Rattle.reg_cli.specs.declared.error.Failure.TheVariants.{Plain}
use Rattle.ags_cli.specs.declared.watched.Watched.{Watched}

module _ {W : Type 0} (writer : WriteGhosts W) where
  -- the answer was printed, or the writer failed, and the run ends with its status; or there was no memory for its text
  abbrev pub PrintsAnswer : Answer → Watched W → Watched W → Result ℕ Failure → Type 0
  PrintsAnswer answer old new (Ok ended) =
      (text : List ℕ) × IsPrinted answer text × TellsTo writer old new text (exit_status answer) ended
  PrintsAnswer answer old new (Err failure) =
      (failure ≡ Plain NoMemory)
      × (writer.contents (inner_of new) ≡ writer.contents (inner_of old)) × (has_failed new ≡ has_failed old)

module _ {K W : Type 0} {keep : KeepGhosts K} (writer : WriteGhosts W) where
  -- the desk was called once with this request, and its answer was printed
  abbrev pub AsksDesk : Asked → Desk K keep → Desk K keep → Watched W → Watched W → Result ℕ Failure → Type 0
  AsksDesk request old new out out_after result =
      (answer : Answer) × AnsweredBy keep old request answer new × PrintsAnswer writer answer out out_after result
