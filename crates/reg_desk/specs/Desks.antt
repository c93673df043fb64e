-- What one request is answered by a desk.
use Rattle.std.specs.Prelude.{◌≡◌, ℕ, List, [], ◌∷◌, ◌++◌, Some, true, false}
use Rattle.ags_check.specs.Findings.{Findings as AreFindings}
use Rattle.reg_policy.specs.declared.rule.Rule.{Rule}
use Rattle.reg_store.specs.Deposit.{Deposit}
use Rattle.reg_store.specs.declared.keep.Keep.{Ghosts}
use Rattle.reg_desk.specs.declared.answer.Answer.{Answer}
use Rattle.reg_desk.specs.declared.answer.Answer.TheVariants.{StoreFailed, Text}
use Rattle.reg_desk.specs.declared.desk.Desk.{Desk}
use Rattle.reg_desk.specs.Asked.{Asked, extract}
use Rattle.reg_desk.specs.Laws.{WasExtracted, IsShownWhole}
use Rattle.reg_desk.specs.Machine.{held}
use Rattle.reg_desk.specs.Running.{RunsIfSound, ReceiptsSurviveIfSound}
use Rattle.reg_desk.specs.Serving.{is_failed, terms_at, Serves, ShowsRows}

-- The desk before, what it is asked, its answer, and the desk after. A desk that failed answers StoreFailed and keeps
-- what it has; else the request is served over its store under its policy, which stays. An extract is made of rows,
-- also over a store that is not sound.
pub record AnsweredBy {K : Type 0} (keep : Ghosts K) (old : Desk K keep) (request : Asked) (answer : Answer)
    (new : Desk K keep) : Type 0 where
  pub policy : new.policy ≡ old.policy
  pub failed : new.failed ≡ is_failed answer
  pub stuck : old.failed ≡ true → (answer ≡ StoreFailed) × (new.keep ≡ old.keep)
  pub served : old.failed ≡ false → Serves keep old.policy request old.keep new.keep answer
  pub rows : ShowsRows request answer

-- One answer for each request, in order: each request is answered so by the desk that the one before it left.
abbrev pub AreAnsweredBy : {K : Type 0} (keep : Ghosts K) → Desk K keep → List Asked → List Answer → Desk K keep
    → Type 0
AreAnsweredBy keep old [] [] new = new ≡ old
AreAnsweredBy {K} keep old (request ∷ requests) (answer ∷ answers) new =
    (next : Desk K keep) × AnsweredBy keep old request answer next × AreAnsweredBy keep next requests answers new
AreAnsweredBy keep old _ _ new = ⊥

-- A list of answers: what it is of the reference model (`Runs`), and that each receipt and each answered withdrawal
-- survives a crash.
abbrev pub AreOfModel : {K : Type 0} (keep : Ghosts K) → Desk K keep → List Asked → List Answer → Desk K keep → Type 0
AreOfModel keep old requests answers new =
    RunsIfSound keep old requests answers new × ReceiptsSurviveIfSound keep old requests answers new

-- Over this store, any list of requests whose answers were given one after the other has answers of the reference model.
abbrev pub StepsAreARun : {K : Type 0} → Ghosts K → Type 0
StepsAreARun {K} keep = (old new : Desk K keep) (requests : List Asked) (answers : List Answer)
    → AreAnsweredBy keep old requests answers new → AreOfModel keep old requests answers new

-- Whichever requests a desk answered before, these answers and the one to this request are of the reference model.
abbrev pub EndsARun : {K : Type 0} (keep : Ghosts K) → Desk K keep → Asked → Answer → Desk K keep → Type 0
EndsARun {K} keep old request answer new = (first : Desk K keep) (requests : List Asked) (answers : List Answer)
    → AreAnsweredBy keep first requests answers old
    → AreOfModel keep first (requests ++ request ∷ []) (answers ++ answer ∷ []) new

-- where the answer is a text, it is a file without findings under the store's dictionary
abbrev pub IsCleanText : {K : Type 0} → Ghosts K → K → Answer → Type 0
IsCleanText keep old (Text text) = ∥ AreFindings (keep.dictionary old) text [] ∥₁
IsCleanText keep old _ = Unit {0}

-- where all groups of a deposit are asked whose bytes are themselves the text of an extract, and every row of it is
-- shown, the text is these bytes
abbrev pub IsSameText : {K : Type 0} → Ghosts K → List Rule → K → Asked → List ℕ → Type 0
IsSameText keep rules old (extract caller project number [] day) text =
    (kept : Deposit) → held number (keep.deposits old) ≡ Some kept → WasExtracted (keep.dictionary old) kept.sent.bytes
    → IsShownWhole (terms_at keep rules old) caller day kept.sent → text ≡ kept.sent.bytes
IsSameText keep rules old _ text = Unit {0}

-- the same of an answer, where it is a text
abbrev pub IsSameAnswer : {K : Type 0} → Ghosts K → List Rule → K → Asked → Answer → Type 0
IsSameAnswer keep rules old request (Text text) = IsSameText keep rules old request text
IsSameAnswer keep rules old request _ = Unit {0}
