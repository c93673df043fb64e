-- The check of an input under a dictionary, and under the one that is built in.
use Rattle.std.specs.Prelude.{◌≡◌, ◌↔◌, ◌+◌, ◌||◌, ℕ, IsTrue}
use Rattle.std.specs.declared.io.Read.{Ghosts as ReadGhosts}
use Rattle.std.specs.declared.io.Write.{Ghosts as WriteGhosts}
use Rattle.ags_rows.specs.declared.TheConstants.{LIMIT}
use Rattle.ags_dict.specs.Entries.{Entries}
use Rattle.ags_dict.specs.Mini.{mini_entries}
use Rattle.ags_cli.specs.Answers.{AnswersOnInput}
use Rattle.ags_cli.specs.Faults.{fault_status}
use Rattle.ags_cli.specs.Reading.{TakesAtMost}
use Rattle.ags_cli.specs.Streams.{has_failed, inner_of}
use Rattle.ags_cli.specs.declared.error.Fault.TheVariants.{Stream}
use Rattle.ags_cli.specs.declared.watched.Watched.{Watched}

module _ {R W E : Type 0} (reader : ReadGhosts R) (writer : WriteGhosts W) (errors : WriteGhosts E) where
  -- A run that checks what a watched reader carries, under the entries of a dictionary. Its status is that of a stream
  -- that failed exactly where one failed. It takes no byte beyond the one after LIMIT. Where contracts can name the
  -- reader's bytes, the outcome is the one of these.
  pub record ChecksStream (entries : Entries) (input input_after : Watched R) (out out_after : Watched W)
      (err err_after : Watched E) (status : ℕ) : Type 0 where
    pub failed : (status ≡ fault_status Stream)
        ↔ IsTrue (has_failed input_after || (has_failed out_after || has_failed err_after))
    pub taken : TakesAtMost (LIMIT + 1) (reader.remaining (inner_of input)) (reader.remaining (inner_of input_after))
    pub answers : AnswersOnInput reader writer errors entries input input_after out out_after err err_after status

  -- the same under the dictionary that is built in
  abbrev pub ChecksInput : Watched R → Watched R → Watched W → Watched W → Watched E → Watched E → ℕ → Type 0
  ChecksInput input input_after out out_after err err_after status =
      ChecksStream mini_entries input input_after out out_after err err_after status
