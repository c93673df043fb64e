-- What connections do to a desk, from what each does.
use Rattle.std.proofs.Common.{◌≡◌, inl, inr, ℕ, ℤ, List, [], ◌∷◌, ◌++◌, Option, Result, Ok, Err, refl, sym, subst, ◌∙◌}
use Rattle.std.specs.Prelude.{IsTrue}
use Rattle.reg_policy.specs.declared.callers.Credential.{Credential}
use Rattle.reg_store.specs.declared.keep.Keep.{Ghosts as KeepGhosts}
use Rattle.reg_desk.specs.Asked.{Asked}
use Rattle.reg_desk.specs.Desks.{AnsweredBy, AreAnsweredBy}
use Rattle.reg_desk.specs.declared.answer.Answer.{Answer}
use Rattle.reg_desk.specs.declared.desk.Desk.{Desk}
use Rattle.reg_http.specs.Connections.{ServesConnection}
use Rattle.reg_http.specs.Serving.{Exchange, ServesOne, is_read}
use Rattle.reg_http.specs.Serving as ways
use Rattle.reg_http.specs.declared.connection.Served.{Served}
use Rattle.reg_http.specs.declared.error.IoFault.{IoFault}
use Rattle.reg_http.specs.declared.error.IoFault.TheVariants as fault
use Rattle.reg_http.specs.declared.tally.Tally.{Tally}
use Rattle.reg_app.specs.Serving.{Applies, AsksOnce, GoesOn, Looks, Period, Serves, period_after, starts, looked, answered}
use Rattle.reg_app.specs.declared.reload.Renewal.{Renewal}
use Rattle.reg_app.specs.declared.reload.Renewal.TheVariants.{Same, Anew, Refused}

module _ {K : Type 0} (keep : KeepGhosts K) where
  -- a way of a connection has one request at most
  way_asks : (callers : List Credential) (day : ℤ) (bytes : List ℕ) (old new : Desk K keep) (text : List ℕ) (status : ℕ)
      → Exchange (AnsweredBy keep) callers day bytes old new text status → AsksOnce callers old new
  way_asks callers day bytes old new text status (ways.silent is) = inl refl
  way_asks callers day bytes old new text status (ways.refused r is) = inl refl
  way_asks callers day bytes old new text status (ways.answered asked answer said is by rendered) = inr (day, bytes, asked, answer, is, by)
  way_asks callers day bytes old new text status (ways.no_memory h rest is) = inl refl
  way_asks callers day bytes old new text status (ways.unwritten asked answer is by built) = inr (day, bytes, asked, answer, is, by)

  -- so does what came of it
  result_asks : (callers : List Credential) (day : ℤ) (bytes : List ℕ) (old new : Desk K keep) (before after : Option (List ℕ)) (same : Type 0)
      (result : Result Served IoFault) → ServesOne (AnsweredBy keep) callers day bytes old new before after result
      → (IsTrue (is_read result) → (new ≡ old) × same) → AsksOnce callers old new
  result_asks callers day bytes old new before after same (Ok served) (text, status, way, written) unread = way_asks callers day bytes old new text status way
  result_asks callers day bytes old new before after same (Err fault.Write) (text, status, way, written) unread = way_asks callers day bytes old new text status way
  result_asks callers day bytes old new before after same (Err fault.Read) none unread = inl (unread refl).0

  -- so does a connection
  pub asks_once : {R W : Type 0} (remaining : R → Option (List ℕ)) (contents : W → Option (List ℕ)) (callers : List Credential) (day : ℤ)
      (sides sides_after : Tally R × Tally W) (old new : Desk K keep) (result : Result Served IoFault)
      → ServesConnection (AnsweredBy keep) remaining contents callers day sides sides_after old new result → AsksOnce callers old new
  asks_once remaining contents callers day sides sides_after old new result served =
      result_asks callers day served.unnamed.0 old new _ _ _ result served.unnamed.1 served.unread

  -- one request more
  one_more : (old mid new : Desk K keep) (requests : List Asked) (answers : List Answer) (asked : Asked) (answer : Answer)
      → AreAnsweredBy keep old requests answers mid → AnsweredBy keep mid asked answer new
      → AreAnsweredBy keep old (requests ++ asked ∷ []) (answers ++ answer ∷ []) new
  one_more old mid new [] [] asked answer same by = (new, subst (λ (d : Desk K keep). AnsweredBy keep d asked answer new) same by, refl)
  one_more old mid new (r ∷ requests) (a ∷ answers) asked answer (next, first, rest) by =
      (next, first, one_more next mid new requests answers asked answer rest by)
  one_more old mid new requests answers asked answer none by = absurd none

  -- a look begins a period, or changes nothing
  after_look : {L : Type 0} (look : Renewal L) (period : Period keep) (old new : Desk K keep) → AreAnsweredBy keep period.begin period.requests period.answers old
      → Applies look old new → AreAnsweredBy keep (period_after look period new).begin (period_after look period new).requests (period_after look period new).answers new
  after_look (Anew rights log) period old new before applies = refl
  after_look Same period old new before same = subst (λ (d : Desk K keep). AreAnsweredBy keep period.begin period.requests period.answers d) (sym same) before
  after_look (Refused failure) period old new before same = subst (λ (d : Desk K keep). AreAnsweredBy keep period.begin period.requests period.answers d) (sym same) before

module _ {K L R : Type 0} (keep : KeepGhosts K) (looks : R → Renewal L → R → Type 0) (first : Desk K keep) (known : List Credential) (source : R) where
  -- the requests of a period were answered one after the other
  pub period_answered : (period : Period keep) (desk : Desk K keep) (callers : List Credential) (reload : R)
      → Serves looks first known source period desk callers reload → AreAnsweredBy keep period.begin period.requests period.answers desk
  period_answered period desk callers reload starts = refl
  period_answered period desk callers reload (looked then old new who from to look before found applies) =
      after_look keep look then old new (period_answered then old who from before) applies
  period_answered period desk callers reload (answered then old new who from day bytes asked answer before reads by) =
      one_more keep then.begin old new then.requests then.answers asked answer (period_answered then old who from before) by

  -- a connection goes on with what was served
  asked_on : (period : Period keep) (old new : Desk K keep) (callers : List Credential) (reload : R)
      → Serves looks first known source period old callers reload → AsksOnce callers old new
      → (last : Period keep) × Serves looks first known source last new callers reload
  asked_on period old new callers reload before (inl same) =
      (period, subst (λ (d : Desk K keep). Serves looks first known source period d callers reload) (sym same) before)
  asked_on period old new callers reload before (inr (day, bytes, asked, answer, reads, by)) =
      (_, answered period old new callers reload day bytes asked answer before reads by)

module _ {K L R : Type 0} (keep : KeepGhosts K) (looks : R → Renewal L → R → Type 0) where
  -- so do a look and the connection after it
  pub look_on : (old mid new : Desk K keep) (callers then now : List Credential) (from to : R)
      → Looks looks from to old mid callers then → AsksOnce then mid new → now ≡ then → GoesOn looks from to old new callers now
  look_on old mid new callers then now from to (look, found, applies, same) asked is first known source period before =
      let seen = looked period old mid callers from to look before found applies in
      let to_now = subst (λ (cs : List Credential). Serves looks first known source (period_after look period mid) mid cs to) (sym (is ∙ same)) seen in
      asked_on keep looks first known source (period_after look period mid) mid new now to to_now (subst (λ (cs : List Credential). AsksOnce cs mid new) (sym is) asked)
