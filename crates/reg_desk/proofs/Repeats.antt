-- A repeat gets the receipt of the first equal deposit, in each later state.
use Rattle.std.proofs.Common.{◌≡◌, ℕ, ◌+◌, ◌≤◌, Bool, true, false, cond, Some, None, List, [], ◌∷◌, ◌++◌, length, refl, sym, ap, subst, ◌∙◌, inl, inr, arith, Option}
use Rattle.std.specs.Prelude.{ℤ}
use Rattle.std.specs.Str.{bytes_eq}
use Rattle.std.proofs.lemmas.Bool.{and_from, cond-true, ltb-false}
use Rattle.std.proofs.lemmas.Slice.Eq.{bytes_eq-Decides}
use Rattle.ags_rows.specs.declared.TheConstants.{LIMIT}
use Rattle.ags_check.specs.Findings.{Findings as AreFindings}
use Rattle.reg_policy.specs.declared.callers.Caller.{Caller}
use Rattle.reg_policy.specs.declared.subject.Decision.{Decision}
use Rattle.reg_policy.specs.declared.subject.Verb.TheVariants as verbs
use Rattle.reg_store.specs.Sent.{Sent, is_repeat}
use Rattle.reg_store.specs.Deposit.{Deposit, sents, new_deposit}
use Rattle.reg_store.proofs.Lemmas.{sents_with_withdrawn}
use Rattle.reg_desk.specs.Asked.{Asked, deposit, withdraw}
use Rattle.reg_desk.specs.declared.answer.Answer.{Answer}
use Rattle.reg_desk.specs.declared.answer.Answer.TheVariants.{NoMemory, Receipt, StoreFailed}
use Rattle.reg_desk.specs.Machine.{Terms, decided, OrDenied, OrRefused, IsPermit, first_equal, receipt_of, IsReply, asked_deposit, IsNext}
use Rattle.reg_desk.specs.Serving.{IsAnswer, IsAfter}
use Rattle.reg_desk.specs.Laws.{GetsReceipt, IsModelAnswer, RepeatIsReceived}
use Rattle.reg_desk.proofs.Lasting.{receipt_fields, receipt_first}
use Rattle.reg_desk.proofs.ModelAnswers.{all_answers}
use Rattle.reg_desk.proofs.Taken.{IsReceipt, clean_stands, not_refused, taken_received}

-- ---- the first equal deposit

-- one more deposit after it changes nothing
first_stays : (m : ℕ) (firm project bytes : List ℕ) (state : List Deposit) (d : Deposit) (p : ℕ × ℤ)
    → first_equal m firm project bytes (sents state) ≡ Some p
    → first_equal m firm project bytes (sents (state ++ d ∷ [])) ≡ Some p
first_stays m firm project bytes [] d p h = absurd cc
first_stays m firm project bytes (k ∷ state) d p h =
    by (is_repeat firm project bytes k.sent) (first_equal (m + 1) firm project bytes (sents state))
    (first_equal (m + 1) firm project bytes (sents (state ++ d ∷ []))) (first_stays (m + 1) firm project bytes state d p) h
  where
    by : (t : Bool) (rest more : Option (ℕ × ℤ)) → (rest ≡ Some p → more ≡ Some p)
        → cond t (Some (m, k.sent.embargo)) rest ≡ Some p → cond t (Some (m, k.sent.embargo)) more ≡ Some p
    by true rest more stays h = h
    by false rest more stays h = stays h

-- it is the last one, where none before it is equal
first_last : (m : ℕ) (firm project bytes : List ℕ) (state : List Deposit) (d : Deposit)
    → is_repeat firm project bytes d.sent ≡ true → first_equal m firm project bytes (sents state) ≡ None
    → first_equal m firm project bytes (sents (state ++ d ∷ [])) ≡ Some (m + length state, d.sent.embargo)
first_last m firm project bytes [] d is h =
    let none : Option (ℕ × ℤ) = None in
    let place : m ≡ m + 0 = omega arith in
    cond-true (is_repeat firm project bytes d.sent) (Some (m, d.sent.embargo)) none is
    ∙ ap (λ (k : ℕ). Some (k, d.sent.embargo)) place
first_last m firm project bytes (k ∷ state) d is h =
    by (is_repeat firm project bytes k.sent) (first_equal (m + 1) firm project bytes (sents state))
    (first_equal (m + 1) firm project bytes (sents (state ++ d ∷ [])))
    (first_last (m + 1) firm project bytes state d is) h
  where
    by : (t : Bool) (rest more : Option (ℕ × ℤ))
        → (rest ≡ None → more ≡ Some (m + 1 + length state, d.sent.embargo))
        → cond t (Some (m, k.sent.embargo)) rest ≡ None
        → cond t (Some (m, k.sent.embargo)) more ≡ Some (m + length (k ∷ state), d.sent.embargo)
    by true rest more last h = absurd cc
    by false rest more last h =
        let place : m + 1 + length state ≡ m + length (k ∷ state) = omega arith in
        last h ∙ ap (λ (i : ℕ). Some (i, d.sent.embargo)) place

repeats_itself : (caller : Caller) (project : List ℕ) (embargo : ℤ) (bytes : List ℕ)
    → is_repeat caller.firm project bytes (asked_deposit caller project embargo bytes) ≡ true
repeats_itself caller project embargo bytes =
    and_from (bytes_eq caller.firm caller.firm) _ ((bytes_eq-Decides caller.firm caller.firm).1 refl)
    (and_from (bytes_eq project project) (bytes_eq bytes bytes) ((bytes_eq-Decides project project).1 refl) ((bytes_eq-Decides bytes bytes).1 refl))

-- no request changes which deposit is the first
stays_first : (terms : Terms) (request : Asked) (state next : List Deposit) (firm project bytes : List ℕ) (p : ℕ × ℤ)
    → IsNext terms state request next → first_equal 1 firm project bytes (sents state) ≡ Some p
    → first_equal 1 firm project bytes (sents next) ≡ Some p
stays_first terms request state next firm project bytes p (inr h) first =
    ap (λ (l : List Deposit). first_equal 1 firm project bytes (sents l)) h.1 ∙ first
stays_first terms (deposit caller of embargo body day) state next firm project bytes p (inl h) first =
    ap (λ (l : List Deposit). first_equal 1 firm project bytes (sents l)) h.1
    ∙ first_stays 1 firm project bytes state (new_deposit (asked_deposit caller of embargo body)) p first
stays_first terms (withdraw caller of number day) state next firm project bytes p (inl h) first =
    ap (λ (l : List Deposit). first_equal 1 firm project bytes (sents l)) h.1
    ∙ ap (λ (l : List Sent). first_equal 1 firm project bytes l) (sents_with_withdrawn number state) ∙ first
stays_first terms request state next firm project bytes p (inl h) first = absurd h

-- ---- a receipt

-- a body that was received: it is not above the limit of bytes, it has no finding, and from then on it is held
pub record IsReceived (terms : Terms) (next : List Deposit) (firm project bytes : List ℕ) (n : ℕ) (e : ℤ) : Type 0 where
  pub small : length bytes ≤ LIMIT
  pub clean : AreFindings terms.dictionary bytes []
  pub first : first_equal 1 firm project bytes (sents next) ≡ Some (n, e)

received : (terms : Terms) (caller : Caller) (project : List ℕ) (embargo : ℤ) (bytes : List ℕ) (day : ℤ)
    (state next : List Deposit) (n : ℕ) (e : ℤ)
    → IsReply terms state (deposit caller project embargo bytes day) (Receipt n e)
    → IsNext terms state (deposit caller project embargo bytes day) next
    → IsReceived terms next caller.firm project bytes n e
received terms caller project embargo bytes day state next n e is step =
    let first = first_equal 1 caller.firm project bytes (sents state) in
    let fine =
    not_refused (decided terms caller project verbs.Deposit day) terms bytes
    (IsReceipt terms state caller project embargo bytes) (Receipt n e) is (λ k x. cc) (λ x. cc) (λ l x. cc) in
    let law = taken_received terms state caller project embargo bytes day (Receipt n e) is in
    let First = λ (l : List Deposit). first_equal 1 caller.firm project bytes (sents l) in
    record {
      small = ltb-false LIMIT (length bytes) fine.1;
      clean = fine.2;
      first = elim step [
        | inl h ↦
            let fields = receipt_fields n (length state + 1) e embargo (law.0 h.0) in
            let new = new_deposit (asked_deposit caller project embargo bytes) in
            let place : 1 + length state ≡ n = omega (arith, fields.0) in
            ap First h.1
            ∙ first_last 1 caller.firm project bytes state new (repeats_itself caller project embargo bytes) h.0.3
            ∙ ap (λ (k : ℕ). Some (k, embargo)) place ∙ ap (λ (x : ℤ). Some (n, x)) (sym fields.1)
        | inr h ↦
            ap First h.1
            ∙ receipt_first terms embargo (length state) first n e fine.3 (λ new. h.0 _ (law.1 new, refl))
      ];
    }

-- what a Deposit of it is answered, if it is permitted
repeat_reply : (terms : Terms) (caller : Caller) (project : List ℕ) (embargo : ℤ) (bytes : List ℕ) (day : ℤ)
    (state : List Deposit) (n : ℕ) (e : ℤ) (reply : Answer) → IsReceived terms state caller.firm project bytes n e
    → IsPermit (decided terms caller project verbs.Deposit day)
    → IsReply terms state (deposit caller project embargo bytes day) reply → reply ≡ Receipt n e
repeat_reply terms caller project embargo bytes day state n e reply was permit is =
    let Stands = IsReceipt terms state caller project embargo bytes in
    let permitted = subst (λ (d : Decision). OrDenied d (OrRefused terms bytes Stands) reply) permit.1 is in
    clean_stands terms bytes Stands reply was.small was.clean permitted
    ∙ ap (receipt_of terms embargo (length state)) was.first

-- ---- the answers of a desk

-- the reply to each request is so
gets : (terms : Terms) (state : List Deposit) (firm project bytes : List ℕ) (n : ℕ) (e : ℤ)
    → IsReceived terms state firm project bytes n e → (r : Asked) (a : Answer) → IsReply terms state r a
    → GetsReceipt terms firm project bytes (Receipt n e) r a
gets terms state firm project bytes n e was (deposit caller of embargo body day) a is =
    λ same_firm same_project same_bytes permit model.
    let here = subst (λ (x : List ℕ). IsReceived terms state x project bytes n e) (sym same_firm) was in
    let there = subst (λ (x : List ℕ). IsReceived terms state caller.firm x bytes n e) (sym same_project) here in
    let of_body = subst (λ (x : List ℕ). IsReceived terms state caller.firm of x n e) (sym same_bytes) there in
    repeat_reply terms caller of embargo body day state n e a of_body permit is
gets terms state firm project bytes n e was r a is = tt

-- nothing is said of an answer that is none of the model
gets_none : (terms : Terms) (firm project bytes : List ℕ) (receipt a : Answer) → (IsModelAnswer a → ⊥) → (r : Asked)
    → GetsReceipt terms firm project bytes receipt r a
gets_none terms firm project bytes receipt a none (deposit caller of embargo body day) =
    λ same_firm same_project same_bytes permit model. absurd (none model)
gets_none terms firm project bytes receipt a none r = tt

pub repeat_received : RepeatIsReceived
unfolding IsAnswer IsAfter
repeat_received terms state caller project embargo bytes day n until requests answers last h =
    let Gets = GetsReceipt terms caller.firm project bytes (Receipt n until) in
    let none = gets_none terms caller.firm project bytes (Receipt n until) in
    (all_answers terms (λ s. IsReceived terms s caller.firm project bytes n until) Gets (none StoreFailed (λ x. x))
    (none NoMemory (λ x. x)) (λ s next r a was reply step. (
      gets terms s caller.firm project bytes n until was r a reply,
      record {
        small = was.small;
        clean = was.clean;
        first = stays_first terms r s next caller.firm project bytes (n, until) step was.first;
      },
    )) h.1.0 requests answers last (received terms caller project embargo bytes day state h.1.0 n until h.0 h.1.1) h.1.2).1
