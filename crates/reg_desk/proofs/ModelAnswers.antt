-- The first of a desk's answers, and the steps of the reference model among them.
use Rattle.std.proofs.Common.{◌≡◌, ◌⊎◌, List, [], ◌∷◌, map, refl, sym, subst, inl, inr}
use Rattle.std.specs.List.{AllZip}
use Rattle.reg_store.specs.Deposit.{Deposit}
use Rattle.reg_desk.specs.Asked.{Asked}
use Rattle.reg_desk.specs.declared.answer.Answer.{Answer}
use Rattle.reg_desk.specs.declared.answer.Answer.TheVariants.{NoMemory, StoreFailed}
use Rattle.reg_desk.specs.Machine.{Terms, IsReply, IsNext}
use Rattle.reg_desk.specs.Running.{AreFailed, AreAnswers}
use Rattle.reg_desk.specs.Serving.{IsAnswer, IsAfter}
use Rattle.reg_desk.specs.Laws.{AnswersAreARun, IsModelAnswer, model_steps}

-- where the first answer is NoMemory, the others are given from the same state
pub out_of_memory : (terms : Terms) (state : List Deposit) (r : Asked) (requests : List Asked) (answers : List Answer)
    (last : List Deposit) → AreAnswers terms state (r ∷ requests) (NoMemory ∷ answers) last
    → AreAnswers terms state requests answers last
unfolding IsAfter
out_of_memory terms state r requests answers last h =
    subst (λ (s : List Deposit). AreAnswers terms s requests answers last) h.1.1 h.1.2

-- What the first answer is: the store failed, and all the others are so; out of memory, and the others are given from
-- the same state; or the reply of the reference model, and the others are given from the next state.
abbrev pub FirstAnswer : Terms → List Deposit → Asked → List Asked → Answer → List Answer → List Deposit → Type 0
FirstAnswer terms state r requests a answers last =
    ((a ≡ StoreFailed) × (last ≡ state) × AreFailed requests answers)
    ⊎ (((a ≡ NoMemory) × AreAnswers terms state requests answers last)
    ⊎ (IsModelAnswer a × IsReply terms state r a × (next : List Deposit) × IsNext terms state r next
    × AreAnswers terms next requests answers last))

pub first_answer : (terms : Terms) (state : List Deposit) (r : Asked) (requests : List Asked) (a : Answer)
    (answers : List Answer) (last : List Deposit) → AreAnswers terms state (r ∷ requests) (a ∷ answers) last
    → FirstAnswer terms state r requests a answers last
unfolding IsAnswer IsAfter
first_answer terms state r requests StoreFailed answers last h = inl (refl, h.1.0, h.1.1)
first_answer terms state r requests NoMemory answers last h =
    inr (inl (refl, out_of_memory terms state r requests answers last h))
first_answer terms state r requests a answers last h = inr (inr (tt, h.0, h.1.0, h.1.1, h.1.2))

-- what holds of StoreFailed holds of such answers
pub all_failed : (Holds : Asked → Answer → Type 0) → ((r : Asked) → Holds r StoreFailed) → (requests : List Asked)
    (answers : List Answer) → AreFailed requests answers → AllZip Holds requests answers
all_failed Holds each [] [] h = tt
all_failed Holds each (r ∷ requests) (a ∷ answers) h =
    (subst (Holds r) (sym h.0) (each r), all_failed Holds each requests answers h.1)
all_failed Holds each requests answers h = absurd h

-- A fact of the state that each next state keeps: what then holds of each reply, and of StoreFailed and NoMemory, holds
-- of each of a desk's answers.
pub all_answers : (terms : Terms) (Is : List Deposit → Type 0) (Holds : Asked → Answer → Type 0)
    → ((r : Asked) → Holds r StoreFailed) → ((r : Asked) → Holds r NoMemory)
    → ((state next : List Deposit) (r : Asked) (a : Answer) → Is state → IsReply terms state r a
    → IsNext terms state r next → Holds r a × Is next)
    → (state : List Deposit) (requests : List Asked) (answers : List Answer) (last : List Deposit) → Is state
    → AreAnswers terms state requests answers last → Is last × AllZip Holds requests answers
unfolding IsAnswer IsAfter
all_answers terms Is Holds failed dry each state [] [] last is h = (subst Is (sym h) is, tt)
all_answers terms Is Holds failed dry each state (r ∷ requests) (StoreFailed ∷ answers) last is h =
    (subst Is (sym h.1.0) is, (failed r, all_failed Holds failed requests answers h.1.1))
all_answers terms Is Holds failed dry each state (r ∷ requests) (NoMemory ∷ answers) last is h =
    let after = out_of_memory terms state r requests answers last h in
    let rest = all_answers terms Is Holds failed dry each state requests answers last is after in
    (rest.0, (dry r, rest.1))
all_answers terms Is Holds failed dry each state (r ∷ requests) (a ∷ answers) last is h =
    let here = each state h.1.0 r a is h.0 h.1.1 in
    let rest = all_answers terms Is Holds failed dry each h.1.0 requests answers last here.1 h.1.2 in
    (rest.0, (here.0, rest.1))
all_answers terms Is Holds failed dry each state requests answers last is h = absurd h

pub answers_run : AnswersAreARun
unfolding IsAnswer IsAfter
answers_run terms state [] [] last h = (refl, h)
answers_run terms state (r ∷ requests) (StoreFailed ∷ answers) last h = (refl, h.1.0)
answers_run terms state (r ∷ requests) (NoMemory ∷ answers) last h =
    answers_run terms state requests answers last (out_of_memory terms state r requests answers last h)
answers_run terms state (r ∷ requests) (a ∷ answers) last h =
    let later = map (λ (s : Asked × Answer). s.1) (model_steps requests answers) in
    (a, later, h.1.0, refl, h.0, h.1.1, answers_run terms h.1.0 requests answers last h.1.2)
answers_run terms state requests answers last h = absurd h
