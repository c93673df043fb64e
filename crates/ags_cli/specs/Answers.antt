-- The answer of a run to a file, under the entries of a dictionary.
use Rattle.std.specs.Prelude.{◌≡◌, ℕ, ◌<◌, ◌≤◌, List, [], ◌++◌, length, Option, IfSome, Result, Ok, Err, ⊤}
use Rattle.std.specs.Prelude.{Bool, true, false}
use Rattle.std.specs.Io.KnownBytes.{Appends}
use Rattle.std.specs.declared.io.Read.{Ghosts as ReadGhosts}
use Rattle.std.specs.declared.io.Write.{Ghosts as WriteGhosts}
use Rattle.ags_dict.specs.Entries.{Entries}
use Rattle.ags_check.specs.Findings.{Findings}
use Rattle.ags_rows.specs.declared.TheConstants.{LIMIT}
use Rattle.ags_rows.specs.declared.finding.Finding.{Finding}
use Rattle.ags_cli.specs.declared.error.Fault.{Fault}
use Rattle.ags_cli.specs.declared.error.Fault.TheVariants.{TooLarge, NoMemory, Stream}
use Rattle.ags_cli.specs.declared.report.Report.{Report}
use Rattle.ags_cli.specs.declared.watched.Watched.{Watched}
use Rattle.ags_cli.specs.Faults.{fault_text, fault_status}
use Rattle.ags_cli.specs.Report.{report_of}
use Rattle.ags_cli.specs.Streams.{has_failed, inner_of}

-- what is printed of a file, what is said of a fault, and the status
pub data Answers (entries : Entries) (bytes : List ℕ) : List ℕ → List ℕ → ℕ → Type 0 where
  reported : (found : List Finding) → length bytes ≤ LIMIT → Findings entries bytes found
      → Answers entries bytes (report_of found).text [] (report_of found).status
  too_large : LIMIT < length bytes → Answers entries bytes [] (fault_text TooLarge) (fault_status TooLarge)
  no_memory : Answers entries bytes [] (fault_text NoMemory) (fault_status NoMemory)

-- Whether the reader and the two writers have failed, what the writers have taken, and the status: no stream failed and
-- they took all of an answer, the reader failed and they took nothing, or the one that had an answer to take failed and
-- took a first part of it.
pub data Outcome (entries : Entries) (bytes : List ℕ) : Bool → Bool → Bool → List ℕ → List ℕ → ℕ → Type 0 where
  answered : (printed said : List ℕ) (status : ℕ) → Answers entries bytes printed said status
      → Outcome entries bytes false false false printed said status
  not_read : Outcome entries bytes true false false [] [] (fault_status Stream)
  not_printed : (part rest : List ℕ) (status : ℕ) → Answers entries bytes (part ++ rest) [] status
      → Outcome entries bytes false true false part [] (fault_status Stream)
  not_said : (part rest : List ℕ) (status : ℕ) → Answers entries bytes [] (part ++ rest) status
      → Outcome entries bytes false false true [] part (fault_status Stream)

-- the outcome of a run, by what its writers held before and hold after it
abbrev pub AnswersOn : Entries → List ℕ → Option (List ℕ) → Option (List ℕ) → Option (List ℕ) → Option (List ℕ)
    → Bool → Bool → Bool → ℕ → Type 0
AnswersOn entries bytes out out_after err err_after in_failed out_failed err_failed status =
    (printed said : List ℕ) × Outcome entries bytes in_failed out_failed err_failed printed said status
    × Appends out out_after printed × Appends err err_after said

module _ {W E : Type 0} (writer : WriteGhosts W) (errors : WriteGhosts E) where
  -- the outcome of a run on bytes, by what two watched writers are before and after it
  abbrev pub AnswersTo : Entries → List ℕ → Bool → Watched W → Watched W → Watched E → Watched E → ℕ → Type 0
  AnswersTo entries bytes in_failed out out_after err err_after status =
      AnswersOn entries bytes (writer.contents (inner_of out)) (writer.contents (inner_of out_after))
      (errors.contents (inner_of err)) (errors.contents (inner_of err_after))
      in_failed (has_failed out_after) (has_failed err_after) status

  -- the outcome of a run on bytes, whether their reader has failed or not
  abbrev pub AnswersOnBytes : Entries → List ℕ → Watched W → Watched W → Watched E → Watched E → ℕ → Type 0
  AnswersOnBytes entries bytes out out_after err err_after status =
      (in_failed : Bool) × AnswersTo entries bytes in_failed out out_after err err_after status

module _ {R W E : Type 0} (reader : ReadGhosts R) (writer : WriteGhosts W) (errors : WriteGhosts E) where
  -- the outcome of a run on the bytes of a watched reader, if contracts can name them
  abbrev pub AnswersOnInput : Entries → Watched R → Watched R → Watched W → Watched W → Watched E → Watched E → ℕ
      → Type 0
  AnswersOnInput entries input input_after out out_after err err_after status =
      IfSome (reader.remaining (inner_of input))
      (λ bytes. AnswersTo writer errors entries bytes (has_failed input_after) out out_after err err_after status)

-- the report on the file's findings, or why there is none
abbrev pub ReportsOn : Entries → List ℕ → Result Report Fault → Type 0
ReportsOn entries bytes (Ok report) =
    (length bytes ≤ LIMIT) × ((found : List Finding) × Findings entries bytes found × (report ≡ report_of found))
ReportsOn entries bytes (Err TooLarge) = LIMIT < length bytes
ReportsOn entries bytes (Err NoMemory) = ⊤
ReportsOn entries bytes (Err Stream) = ⊤
ReportsOn entries bytes (Err fault) = ⊥
