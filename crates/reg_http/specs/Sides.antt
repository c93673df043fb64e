-- What is served over a desk and the two sides of a connection, a reader and a writer whose calls are counted.
use Rattle.std.specs.Prelude.{◌≡◌, ℕ, ℤ, List, ◌++◌, Result, IfSome, IsTrue}
use Rattle.std.specs.declared.io.Read.{Ghosts as ReadGhosts}
use Rattle.std.specs.declared.io.Write.{Ghosts as WriteGhosts}
use Rattle.httparse.specs.Grammar.{RequestHead}
use Rattle.reg_policy.specs.declared.callers.Credential.{Credential}
use Rattle.reg_store.specs.declared.keep.Keep.{Ghosts as KeepGhosts}
use Rattle.reg_desk.specs.Asked.{Asked}
use Rattle.reg_desk.specs.Desks.{AnsweredBy}
use Rattle.reg_desk.specs.declared.desk.Desk.{Desk}
use Rattle.reg_http.specs.HeadParts.{head_parts, parts_seen}
use Rattle.reg_http.specs.Heads.{IsHead}
use Rattle.reg_http.specs.Serving.{ServesAsked, ServesOne, ServesRequest, Written, is_read, is_write}
use Rattle.reg_http.specs.Tallies.{tally_inner, tally_has_failed}
use Rattle.reg_http.specs.Views.{asking_at}
use Rattle.reg_http.specs.declared.request.HeadAsk.{HeadAsk}
use Rattle.reg_http.specs.declared.request.parts.Parts.{Parts}
use Rattle.reg_http.specs.declared.tally.Tally.{Tally}
use Rattle.reg_http.specs.declared.connection.Served.{Served}
use Rattle.reg_http.specs.declared.error.IoFault.{IoFault}

-- the text was written whole to the writer, and the status is given; or a first part of it, where the writer failed
abbrev pub WrittenTo : {W : Type 0} → WriteGhosts W → Tally W → Tally W → List ℕ → ℕ → Result Served IoFault → Type 0
WrittenTo writes old new text status r =
    Written (writes.contents (tally_inner old)) (writes.contents (tally_inner new)) text status r

module _ {K W : Type 0} {keep : KeepGhosts K} (writes : WriteGhosts W) where
  -- the desk answered the request, and that was written to the writer
  abbrev pub ServesRequestTo : Asked → Desk K keep → Desk K keep → Tally W → Tally W → Result Served IoFault → Type 0
  ServesRequestTo asked old new writer writer_after r =
      ServesRequest (AnsweredBy keep) asked old new
      (writes.contents (tally_inner writer)) (writes.contents (tally_inner writer_after)) r

  -- what a head asks was served, and the reply was written to the writer; `all` is what came after the head
  abbrev pub ServesAskedTo : HeadAsk → ℤ → List ℕ → Desk K keep → Desk K keep
      → Tally W → Tally W → Result Served IoFault → Type 0
  ServesAskedTo ask day all old new writer writer_after r =
      ServesAsked (AnsweredBy keep) (asking_at ask) day all old new
      (writes.contents (tally_inner writer)) (writes.contents (tally_inner writer_after)) r

  -- the bytes of a connection were served, and the reply was written to the writer
  abbrev pub ServesOneTo : List Credential → ℤ → List ℕ → Desk K keep → Desk K keep
      → Tally W → Tally W → Result Served IoFault → Type 0
  ServesOneTo callers day bytes old new writer writer_after r =
      ServesOne (AnsweredBy keep) callers day bytes old new
      (writes.contents (tally_inner writer)) (writes.contents (tally_inner writer_after)) r

-- what came after a head: what came early with it and what the reader still had, if contracts can name that
abbrev pub CameAfter : {R : Type 0} → ReadGhosts R → List ℕ → Tally R → List ℕ → Type 0
CameAfter reads early reader all = IfSome (reads.remaining (tally_inner reader)) (λ left. all ≡ early ++ left)

module _ {K R W : Type 0} {keep : KeepGhosts K} (reads : ReadGhosts R) (writes : WriteGhosts W) where
  -- what a head asks was served, of what came after it
  abbrev pub ServesAskedFrom : HeadAsk → ℤ → List ℕ → Tally R → Desk K keep → Desk K keep
      → Tally W → Tally W → Result Served IoFault → Type 0
  ServesAskedFrom ask day early reader old new writer writer_after r =
      (all : List ℕ) × CameAfter reads early reader all × ServesAskedTo writes ask day all old new writer writer_after r

  -- a head of these parts was served, with what came after it
  abbrev pub ServesHead : List Credential → ℤ → Parts → List ℕ → Tally R → Desk K keep → Desk K keep
      → Tally W → Tally W → Result Served IoFault → Type 0
  ServesHead callers day parts early reader old new writer writer_after r =
      (all : List ℕ) × CameAfter reads early reader all × ((bytes : List ℕ) (h : RequestHead)
      → IsHead bytes h all → parts_seen parts ≡ head_parts h
      → ServesOneTo writes callers day bytes old new writer writer_after r)

  -- the bytes of the reader were served, if contracts can name them, and the reply was written to the writer
  abbrev pub ServesOneFrom : List Credential → ℤ → Tally R → Desk K keep → Desk K keep
      → Tally W → Tally W → Result Served IoFault → Type 0
  ServesOneFrom callers day reader old new writer writer_after r =
      IfSome (reads.remaining (tally_inner reader))
      (λ bytes. ServesOneTo writes callers day bytes old new writer writer_after r)

module _ {K R W : Type 0} {keep : KeepGhosts K} where
  -- faults are those of the two sides, each exactly, and a failed read changes neither desk nor writer
  abbrev pub TellsFaults : Tally R → Desk K keep → Desk K keep → Tally W → Tally W → Result Served IoFault → Type 0
  TellsFaults reader_after old new writer writer_after r =
      (tally_has_failed reader_after ≡ is_read r) × (tally_has_failed writer_after ≡ is_write r)
      × (IsTrue (is_read r) → (new ≡ old) × (writer_after ≡ writer))
