-- The check of a file under the dictionary of another.
use Rattle.std.specs.Prelude.{ℕ, List, Result, Ok, Err, Vec}
use Rattle.std.specs.Global.{Global}
use Rattle.std.specs.declared.io.Write.{Ghosts as WriteGhosts}
use Rattle.ags_dict.specs.Entries.{Entries}
use Rattle.ags_dict.specs.Reading.{IsDictionary}
use Rattle.ags_cli.specs.Answers.{AnswersOnBytes}
use Rattle.ags_cli.specs.declared.watched.Watched.{Watched}
use Rattle.reg_cli.specs.declared.error.Failure.{Failure}

module _ {W E : Type 0} (writer : WriteGhosts W) (errors : WriteGhosts E) where
  -- The bytes of a file were read, and the run answers on them under the dictionary that the text is.
  abbrev pub ChecksUnder : List ℕ → Result (Vec ℕ Global) Failure → Watched W → Watched W → Watched E → Watched E → ℕ
      → Type 0
  ChecksUnder dictionary (Ok bytes) out out_after err err_after status =
      (entries : Entries) × IsDictionary dictionary entries
      × AnswersOnBytes writer errors entries bytes.items out out_after err err_after status
  ChecksUnder dictionary (Err failure) out out_after err err_after status = ⊥
