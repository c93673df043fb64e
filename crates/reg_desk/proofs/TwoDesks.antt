-- What two desks answer, over states that differ in the bytes of one deposit alone.
use Rattle.std.proofs.Common.{◌≡◌, ◌≢◌, ◌↔◌, List, [], ◌∷◌, ◌++◌, sym, subst, ◌∙◌, inl, inr}
use Rattle.std.specs.List.{AllByRecursion, AllZip}
use Rattle.reg_store.specs.Deposit.{Deposit}
use Rattle.reg_desk.specs.Asked.{Asked}
use Rattle.reg_desk.specs.declared.answer.Answer.{Answer}
use Rattle.reg_desk.specs.declared.answer.Answer.TheVariants.{NoMemory, StoreFailed}
use Rattle.reg_desk.specs.Machine.{Terms}
use Rattle.reg_desk.specs.Running.{AreFailed, AreAnswers}
use Rattle.reg_desk.specs.Laws.{with_bytes, DesksDoNotLeak, IsModelAnswer, WhereNeitherFails}
use Rattle.reg_desk.proofs.ModelAnswers.{first_answer}
use Rattle.reg_desk.proofs.Replies.{AreBodies, AreTwins, reply_same}
use Rattle.reg_desk.proofs.Runs.{AreLeftSo, next_same, tells_left, begin_twins}

abbrev AreOutTogether : Answer → Answer → Type 0
AreOutTogether = WhereNeitherFails (λ a b. (a ≡ NoMemory) ↔ (b ≡ NoMemory))

abbrev AreSame : Answer → Answer → Type 0
AreSame = WhereNeitherFails (λ a b. a ≡ b)

-- where the one desk has failed, nothing is said of the other
one_failed : (requests : List Asked) (answers others : List Answer) → AreFailed requests answers
    → AllZip AreOutTogether answers others → AllZip AreSame answers others
one_failed requests [] [] failed out = tt
one_failed (r ∷ requests) (a ∷ answers) (b ∷ others) failed out =
    (λ never nor. absurd (never failed.0), one_failed requests answers others failed.1 out.1)
one_failed [] (a ∷ answers) (b ∷ others) failed out = absurd failed
one_failed requests answers others failed out = absurd out

other_failed : (requests : List Asked) (answers others : List Answer) → AreFailed requests others
    → AllZip AreOutTogether answers others → AllZip AreSame answers others
other_failed requests [] [] failed out = tt
other_failed (r ∷ requests) (a ∷ answers) (b ∷ others) failed out =
    (λ never nor. absurd (nor failed.0), other_failed requests answers others failed.1 out.1)
other_failed [] (a ∷ answers) (b ∷ others) failed out = absurd failed
other_failed requests answers others failed out = absurd out

-- an answer of the reference model is neither NoMemory nor StoreFailed
not_out : (a : Answer) → IsModelAnswer a → a ≢ NoMemory
not_out a is e = subst IsModelAnswer e is

not_failed : (a : Answer) → IsModelAnswer a → a ≢ StoreFailed
not_failed a is e = subst IsModelAnswer e is

out_lives : (a : Answer) → a ≡ NoMemory → a ≢ StoreFailed
out_lives a out e = let both : NoMemory ≡ StoreFailed = sym out ∙ e in absurd cc

answers_same : (terms : Terms) (R : List Deposit → List Deposit → Type 0) (requests : List Asked)
    → AllByRecursion (AreLeftSo terms R) requests → (state other : List Deposit) → R state other
    → (answers others : List Answer) (last final : List Deposit) → AreAnswers terms state requests answers last
    → AreAnswers terms other requests others final → AllZip AreOutTogether answers others → AllZip AreSame answers others
answers_same terms R [] left state other same [] [] last final h k out = tt
answers_same terms R (r ∷ requests) left state other same (a ∷ answers) (b ∷ others) last final h k out =
    elim (first_answer terms state r requests a answers last h) [
      | inl failed ↦ (λ never nor. absurd (never failed.0), one_failed requests answers others failed.2 out.1)
      | inr lives ↦ elim (first_answer terms other r requests b others final k) [
        | inl failed ↦ (λ never nor. absurd (nor failed.0), other_failed requests answers others failed.2 out.1)
        | inr also ↦ elim lives [
          | inl dry ↦ elim also [
            | inl too ↦
                (λ never nor. dry.0 ∙ sym too.0, answers_same terms R requests left.1 state other same answers others last final dry.1 too.1 out.1)
            | inr is ↦ absurd (not_out b is.0 ((out.0 (out_lives a dry.0) (not_failed b is.0)).0 dry.0))
          ]
          | inr was ↦ elim also [
            | inl too ↦ absurd (not_out a was.0 ((out.0 (not_failed a was.0) (out_lives b too.0)).1 too.0))
            | inr is ↦
                let finds = left.0 state other same in
                let next = next_same terms R r state other was.2 is.2 finds.0 same finds.1 was.3 is.3 in
                (λ never nor. reply_same terms r state other finds.0 a b was.1 is.1, answers_same terms R requests left.1 was.2 is.2 next answers others last final was.4 is.4 out.1)
          ]
        ]
      ]
    ]
answers_same terms R requests left state other same (a ∷ answers) [] last final h k out = absurd out
answers_same terms R requests left state other same [] (b ∷ others) last final h k out = absurd out
answers_same terms R [] left state other same (a ∷ answers) (b ∷ others) last final h k out = absurd h
answers_same terms R (r ∷ requests) left state other same [] [] last final h k out = absurd h

pub no_leak : DesksDoNotLeak
no_leak terms before after kept bytes file other clean other_clean requests tells answers others last final h k out =
    let bodies : AreBodies terms kept.sent file bytes other = record { clean = clean; other_clean = other_clean } in
    answers_same terms (AllZip (AreTwins kept bytes)) requests (tells_left terms kept bytes file other bodies requests tells)
    (before ++ kept ∷ after) (before ++ with_bytes kept bytes ∷ after) (begin_twins before after kept bytes) answers
    others last final h k out
