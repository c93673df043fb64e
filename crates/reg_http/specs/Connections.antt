-- What serving several connections does, one after the other.
use Rattle.std.specs.Prelude.{◌≡◌, ◌+◌, ℕ, ℤ, ◌≤◌, List, [], ◌∷◌, Option, Result, IfOk, IfSome, IsTrue, ⊤, Vec}
use Rattle.std.specs.declared.alloc.AllocError.{AllocError}
use Rattle.std.specs.declared.alloc.Global.{Global}
use Rattle.std.specs.declared.io.Read.{Ghosts as ReadGhosts}
use Rattle.std.specs.declared.io.Write.{Ghosts as WriteGhosts}
use Rattle.ags_rows.specs.declared.TheConstants.{LIMIT}
use Rattle.reg_policy.specs.declared.callers.Credential.{Credential}
use Rattle.reg_store.specs.declared.keep.Keep.{Ghosts as KeepGhosts}
use Rattle.reg_desk.specs.Asked.{Asked}
use Rattle.reg_desk.specs.Desks.{AnsweredBy}
use Rattle.reg_http.specs.Heads.{longest_head}
use Rattle.reg_http.specs.Serving.{ServesOne, WaitsFor, is_read, is_write}
use Rattle.reg_http.specs.Tallies.{IsFresh, tally_inner, calls_of, tally_has_failed}
use Rattle.reg_http.specs.declared.tally.Tally.{Tally}
use Rattle.reg_desk.specs.declared.answer.Answer.{Answer}
use Rattle.reg_desk.specs.declared.desk.Desk.{Desk}
use Rattle.reg_http.specs.declared.connection.Served.{Served}
use Rattle.reg_http.specs.declared.error.IoFault.{IoFault}

-- the most calls of `read` that one connection takes: those of the head, and one for each byte of a body and its end
abbrev pub most_calls : ℕ
most_calls = longest_head + 1 + LIMIT

module _ {R W : Type 0} where
  -- no reader or writer was called
  abbrev pub AreFresh : List (Tally R × Tally W) → Type 0
  AreFresh [] = ⊤
  AreFresh (c ∷ cs) = (IsFresh c.0 × IsFresh c.1) × AreFresh cs

module _ {D R W : Type 0} (answers : D → Asked → Answer → D → Type 0)
    (remaining : R → Option (List ℕ)) (contents : W → Option (List ℕ)) (callers : List Credential) (day : ℤ) where
  -- one connection: reader and writer before and after, and the desk before and after
  pub record ServesConnection (old new : Tally R × Tally W) (before after : D) (r : Result Served IoFault)
      : Type 0 where
    pub served : IfSome (remaining (tally_inner old.0)) (λ bytes. ServesOne answers callers day bytes before after
        (contents (tally_inner old.1)) (contents (tally_inner new.1)) r)
    pub unnamed : (bytes : List ℕ) × ServesOne answers callers day bytes before after
        (contents (tally_inner old.1)) (contents (tally_inner new.1)) r
    pub read_fault : tally_has_failed new.0 ≡ is_read r
    pub write_fault : tally_has_failed new.1 ≡ is_write r
    pub unread : IsTrue (is_read r) → (after ≡ before) × (new.1 ≡ old.1)
    pub silent : IfSome (remaining (tally_inner old.0)) (λ bytes. bytes ≡ [] → new.1 ≡ old.1)
    pub calls : calls_of new.0 ≤ most_calls
    pub waits : IfSome (remaining (tally_inner old.0)) (λ bytes. WaitsFor callers day bytes (calls_of new.0))

  -- one after the other, the next over the desk that the last left
  abbrev pub ServesAll : List (Tally R × Tally W) → List (Result Served IoFault) → List (Tally R × Tally W)
      → D → D → Type 0
  ServesAll [] [] [] before after = after ≡ before
  ServesAll (o ∷ os) (r ∷ rs) (n ∷ ns) before after =
      (between : D) × ServesConnection o n before between r × ServesAll os rs ns between after
  ServesAll [] (r ∷ rs) ns before after = ⊥
  ServesAll [] [] (n ∷ ns) before after = ⊥
  ServesAll (o ∷ os) [] ns before after = ⊥
  ServesAll (o ∷ os) (r ∷ rs) [] before after = ⊥

module _ {K R W : Type 0} {keep : KeepGhosts K} (reads : ReadGhosts R) (writes : WriteGhosts W)
    (callers : List Credential) (day : ℤ) where
  -- one connection was served over a desk
  abbrev pub ServesPair : Tally R × Tally W → Tally R × Tally W → Desk K keep → Desk K keep
      → Result Served IoFault → Type 0
  ServesPair old new before after r =
      ServesConnection (AnsweredBy keep) reads.remaining writes.contents callers day old new before after r

  -- the connections were served over a desk, one after the other, if there was memory for their results
  abbrev pub ServesList : List (Tally R × Tally W) → List (Tally R × Tally W) → Desk K keep → Desk K keep
      → Result (Vec (Result Served IoFault) Global) AllocError → Type 0
  ServesList old new before after r =
      IfOk r (λ results.
      ServesAll (AnsweredBy keep) reads.remaining writes.contents callers day old results.items new before after)
