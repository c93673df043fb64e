-- What `serve` does over all its connections: looks for other rights, and answers requests of known callers.
use Rattle.std.specs.Prelude.{◌≡◌, ◌⊎◌, ℕ, ℤ, List, [], ◌∷◌, ◌++◌, false}
use Rattle.reg_policy.specs.declared.callers.Credential.{Credential}
use Rattle.reg_policy.specs.declared.rule.Rule.{Rule}
use Rattle.reg_store.specs.declared.keep.Keep.{Ghosts as KeepGhosts}
use Rattle.reg_desk.specs.Asked.{Asked}
use Rattle.reg_desk.specs.Desks.{AnsweredBy, AreOfModel}
use Rattle.reg_desk.specs.declared.answer.Answer.{Answer}
use Rattle.reg_desk.specs.declared.desk.Desk.{Desk}
use Rattle.reg_cli.specs.declared.files.Rights.{Rights}
use Rattle.reg_http.specs.Reading.{ReadAs, request}
use Rattle.reg_app.specs.declared.reload.Renewal.{Renewal}
use Rattle.reg_app.specs.declared.reload.Renewal.TheVariants.{Anew}

-- the callers who are known after a look
abbrev pub callers_after : {L : Type 0} → Renewal L → List Credential → List Credential
callers_after (Anew rights log) callers = rights.callers
callers_after look callers = callers

module _ {K : Type 0} {keep : KeepGhosts K} where
  -- a reload: the store is as before, and a desk that has not failed is under the new policy
  pub record IsReloaded (old : Desk K keep) (policy : List Rule) (new : Desk K keep) : Type 0 where
    pub same_store : new.keep ≡ old.keep
    pub same_failure : new.failed ≡ old.failed
    pub new_policy : old.failed ≡ false → new.policy ≡ policy

  -- a desk over this store, which has not failed, under this policy
  pub record IsFirst (store : K) (policy : List Rule) (desk : Desk K keep) : Type 0 where
    pub over_store : desk.keep ≡ store
    pub under_policy : desk.policy ≡ policy
    pub works : desk.failed ≡ false

  -- what a look does to a desk: nothing, unless other rights are read
  abbrev pub Applies : {L : Type 0} → Renewal L → Desk K keep → Desk K keep → Type 0
  Applies (Anew rights log) old new = IsReloaded old rights.policy new
  Applies look old new = new ≡ old

  -- a look was made, and it applies: what looks, the desk and the callers who are known, before and after it
  abbrev pub Looks : {L R : Type 0} → (R → Renewal L → R → Type 0) → R → R → Desk K keep → Desk K keep
      → List Credential → List Credential → Type 0
  Looks {L} looks from to old new callers known = (look : Renewal L) × looks from look to × Applies look old new
      × (known ≡ callers_after look callers)

  -- the desk was asked nothing, or one request, which some bytes are read as where these callers are known
  abbrev pub AsksOnce : List Credential → Desk K keep → Desk K keep → Type 0
  AsksOnce callers old new = (new ≡ old) ⊎ ((day : ℤ) × (bytes : List ℕ) × (asked : Asked) × (answer : Answer)
      × ReadAs callers day bytes (request asked) × AnsweredBy keep old asked answer new)

-- what was answered since a reload, or since the start: the desk then, the requests, and their answers
pub record Period {K : Type 0} (keep : KeepGhosts K) : Type 0 where
  pub begin : Desk K keep
  pub requests : List Asked
  pub answers : List Answer

module _ {K : Type 0} {keep : KeepGhosts K} where
  -- nothing was answered yet
  abbrev pub begins : Desk K keep → Period keep
  begins desk = record { begin = desk; requests = []; answers = [] }

  -- one answer more
  abbrev pub with_answer : Period keep → Asked → Answer → Period keep
  with_answer period asked answer = record {
    begin = period.begin;
    requests = period.requests ++ asked ∷ [];
    answers = period.answers ++ answer ∷ [];
  }

  -- the period after a look: a new one, if other rights were read
  abbrev pub period_after : {L : Type 0} → Renewal L → Period keep → Desk K keep → Period keep
  period_after (Anew rights log) period desk = begins desk
  period_after look period desk = period

module _ {K L R : Type 0} {keep : KeepGhosts K} (looks : R → Renewal L → R → Type 0) where
  -- From a desk, the callers who are known and what looks: the period, and these three, after looks and answers, one
  -- after the other.
  pub data Serves (first : Desk K keep) (known : List Credential) (source : R)
      : Period keep → Desk K keep → List Credential → R → Type 0 where
    starts : Serves first known source (begins first) first known source
    looked : (period : Period keep) (desk next : Desk K keep) (callers : List Credential) (from to : R)
        (look : Renewal L)
        → Serves first known source period desk callers from → looks from look to → Applies look desk next
        → Serves first known source (period_after look period next) next (callers_after look callers) to
    answered : (period : Period keep) (desk next : Desk K keep) (callers : List Credential) (reload : R)
        (day : ℤ) (bytes : List ℕ) (asked : Asked) (answer : Answer)
        → Serves first known source period desk callers reload
        → ReadAs callers day bytes (request asked) → AnsweredBy keep desk asked answer next
        → Serves first known source (with_answer period asked answer) next callers reload

  -- whatever was served before, this goes on with it
  abbrev pub GoesOn : R → R → Desk K keep → Desk K keep → List Credential → List Credential → Type 0
  GoesOn from to old new callers callers_new =
      (first : Desk K keep) (known : List Credential) (source : R) (period : Period keep)
      → Serves first known source period old callers from
      → (last : Period keep) × Serves first known source last new callers_new to

  -- connections were served from a desk on, and this is its store at the end
  abbrev pub ServesOn : R → R → Desk K keep → List Credential → K → Type 0
  ServesOn source reload first known kept = (period : Period keep) × (desk : Desk K keep) × (callers : List Credential)
      × Serves first known source period desk callers reload × (kept ≡ desk.keep)

-- Connections were served from this store on, at first by a desk under these rights that had not failed, and what is
-- kept is its store at the end.
abbrev pub ServesFrom : {K L R : Type 0} → KeepGhosts K → (R → Renewal L → R → Type 0) → R → R → K → Rights → K → Type 0
ServesFrom {K} {L} {R} keep looks source reload store rights kept = (first : Desk K keep)
    × IsFirst store rights.policy first × ServesOn looks source reload first rights.callers kept

-- What is answered between two reloads, or since the last one, is a run of the reference model under the policy of the
-- desk at its begin, and each receipt and each answered withdrawal in it survives a crash.
abbrev pub PeriodsAreRuns : {K L R : Type 0} → KeepGhosts K → (R → Renewal L → R → Type 0) → Type 0
PeriodsAreRuns {K} {L} {R} keep looks = (first desk : Desk K keep) (known callers : List Credential) (source reload : R)
    (period : Period keep) → Serves looks first known source period desk callers reload
    → AreOfModel keep period.begin period.requests period.answers desk
