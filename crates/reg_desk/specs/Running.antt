-- What a desk answers to a list of requests, and what a crash may leave after it.
use Rattle.std.specs.Prelude.{◌≡◌, ◌⊎◌, ℕ, List, [], ◌∷◌, true, false, Option, Some}
use Rattle.std.specs.Prelude.{None, MatchBool, option_map, find, zip, ⊤}
use Rattle.std.specs.List.{AllZip}
use Rattle.reg_policy.specs.declared.rule.Rule.{Rule}
use Rattle.reg_store.specs.Deposit.{Deposit, sents}
use Rattle.reg_store.specs.declared.keep.Keep.{Ghosts}
use Rattle.reg_desk.specs.declared.answer.Answer.{Answer}
use Rattle.reg_desk.specs.declared.answer.Answer.TheVariants.{Receipt, StoreFailed, Withdrawn}
use Rattle.reg_desk.specs.declared.desk.Desk.{Desk}
use Rattle.reg_desk.specs.Asked.{Asked, deposit, withdraw}
use Rattle.reg_desk.specs.Machine.{Terms, held, asked_deposit, Changes}
use Rattle.reg_desk.specs.Serving.{is_failed, IsAnswer, IsAfter, terms_at}

-- one StoreFailed for each request
abbrev pub AreFailed : List Asked → List Answer → Type 0
AreFailed requests answers = AllZip (λ request answer. answer ≡ StoreFailed) requests answers

-- One answer for each request. Up to the first StoreFailed each is the reply of the reference model with its next
-- state, or NoMemory with the state unchanged; from there on all are StoreFailed. `last` is the state before the first
-- StoreFailed, or at the end.
abbrev pub AreAnswers : Terms → List Deposit → List Asked → List Answer → List Deposit → Type 0
AreAnswers terms state [] [] last = last ≡ state
AreAnswers terms state (request ∷ requests) (answer ∷ answers) last =
    IsAnswer terms state request answer
    × MatchBool (is_failed answer) ((last ≡ state) × AreFailed requests answers)
    ((next : List Deposit) × IsAfter terms state request answer next × AreAnswers terms next requests answers last)
AreAnswers terms state _ _ last = ⊥

-- the request that was first answered by StoreFailed
abbrev pub failing : List Asked → List Answer → Option Asked
failing requests answers = option_map (λ p. p.0) (find (λ p. is_failed p.1) (zip requests answers))

-- a deposit that was answered by a receipt is held under its number, withdrawn or not, with the embargo that the
-- receipt shows; one that was answered as withdrawn is held and withdrawn
abbrev pub IsHeldIn : List Deposit → Asked → Answer → Type 0
IsHeldIn list (deposit caller project embargo bytes day) (Receipt n until) =
    held n (sents list) ≡ Some (asked_deposit caller project until bytes)
IsHeldIn list (withdraw caller project number day) (Withdrawn n) =
    option_map (λ d. d.withdrawn) (held n list) ≡ Some true
IsHeldIn list _ _ = ⊤

-- The answers of a store that works at the start, its list at the end where none of them is StoreFailed, and what a
-- crash leaves then.
pub record Runs {K : Type 0} (keep : Ghosts K) (rules : List Rule) (old new : K) (requests : List Asked)
    (answers : List Answer) : Type 0 where
  pub last : List Deposit
  pub are_answers : AreAnswers (terms_at keep rules old) (keep.deposits old) requests answers last
  pub final : failing requests answers ≡ None → keep.deposits new ≡ last
  -- a crash leaves the bytes of the dictionary, and no list but `last`, or, where a request failed, one to which that
  -- request changes `last`
  pub left : (bytes : List ℕ) (list : List Deposit) → keep.may_leave new bytes list
      → (bytes ≡ keep.text old) × ((list ≡ last)
      ⊎ ((r : Asked) × (failing requests answers ≡ Some r) × Changes (terms_at keep rules old) last r list))
  -- a crash leaves a register of some list, so of one of these
  pub whole : keep.may_break new → ⊥

-- If the desk had not failed and its store is sound at the end: its answers, its list then and what a crash may leave
-- are as `Runs` says.
abbrev pub RunsIfSound : {K : Type 0} (keep : Ghosts K) → Desk K keep → List Asked → List Answer → Desk K keep → Type 0
RunsIfSound keep old requests answers new = keep.is_sound new.keep → old.failed ≡ false
    → ∥ Runs keep old.policy old.keep new.keep requests answers ∥₁

-- If the desk had not failed and its store is sound at the end: every list that a crash may leave holds each deposit
-- that was answered by a receipt, under its number, with the embargo that the receipt shows, and each that
-- was answered as withdrawn is withdrawn.
abbrev pub ReceiptsSurviveIfSound : {K : Type 0} (keep : Ghosts K) → Desk K keep → List Asked → List Answer
    → Desk K keep → Type 0
ReceiptsSurviveIfSound keep old requests answers new = keep.is_sound new.keep → old.failed ≡ false
    → (bytes : List ℕ) (list : List Deposit) → keep.may_leave new.keep bytes list
    → ∥ AllZip (IsHeldIn list) requests answers ∥₁
