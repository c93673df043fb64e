-- A deposit with a receipt is held from then on, and one that was answered as withdrawn is withdrawn, whatever a crash
-- leaves.
use Rattle.std.proofs.Common.{◌≡◌, ◌≢◌, ℕ, zero, suc, ◌+◌, Bool, true, false, cond, Option, Some, None, List, [], ◌∷◌, ◌++◌, length, refl, sym, ap, subst, ◌∙◌, inl, inr, arith}
use Rattle.std.specs.Prelude.{ℤ, nat_lt, slice_get, option_map}
use Rattle.std.specs.List.{AllZip}
use Rattle.std.proofs.lemmas.Option.{same_Some}
use Rattle.reg_policy.specs.declared.rule.Rule.{Rule}
use Rattle.reg_policy.specs.declared.callers.Caller.{Caller}
use Rattle.reg_policy.specs.declared.subject.Verb.TheVariants as verbs
use Rattle.reg_store.specs.Sent.{Sent}
use Rattle.reg_store.specs.Deposit.{Deposit, sents, new_deposit, as_withdrawn, with_withdrawn}
use Rattle.reg_store.proofs.Lemmas.{sent_at, deposit_at}
use Rattle.reg_store.specs.declared.keep.Keep.{Ghosts}
use Rattle.reg_desk.specs.Asked.{Asked, deposit, withdraw}
use Rattle.reg_desk.specs.declared.answer.Answer.{Answer}
use Rattle.reg_desk.specs.declared.answer.Answer.TheVariants.{Receipt, Full, NoMemory, StoreFailed, Withdrawn}
use Rattle.reg_desk.specs.Machine.{Terms, decided, first_equal, receipt_of, held, IsReply, asked_deposit, Changes, IsNext}
use Rattle.reg_desk.specs.Serving.{terms_at}
use Rattle.reg_desk.specs.Running.{AreAnswers, Runs, IsHeldIn}
use Rattle.reg_desk.specs.Laws.{IsModelAnswer, WithdrawnIsRecorded}
use Rattle.reg_desk.proofs.ModelAnswers.{all_failed, first_answer}
use Rattle.reg_desk.proofs.Taken.{not_refused, taken_received, withdrawn_own, first_at}

-- ---- a list that grew, and in which more may be withdrawn

-- what is held there is what was sent here, and withdrawn if it is so here
abbrev pub Keeps : Deposit → Option Deposit → Type 0
Keeps d held = (e : Deposit) × (held ≡ Some e) × (e.sent ≡ d.sent) × (d.withdrawn ≡ true → e.withdrawn ≡ true)

abbrev pub Grows : List Deposit → List Deposit → Type 0
Grows state list = (i : ℕ) (d : Deposit) → slice_get state i ≡ Some d → Keeps d (slice_get list i)

pub grows_itself : (state list : List Deposit) → list ≡ state → Grows state list
grows_itself state list same i d at = (d, ap (λ (l : List Deposit). slice_get l i) same ∙ at, refl, λ is. is)

pub grows_then : (a b c : List Deposit) → Grows a b → Grows b c → Grows a c
grows_then a b c f g i d at = let e = f i d at in let k = g i e.0 e.1 in (k.0, k.1, k.2 ∙ e.2, λ is. k.3 (e.3 is))

append_grows : (state more : List Deposit) → Grows state (state ++ more)
append_grows [] more i d at = absurd cc
append_grows (k ∷ state) more zero d at = (d, at, refl, λ is. is)
append_grows (k ∷ state) more (suc i) d at = append_grows state more i d at

withdrawn_grows : (n : ℕ) (state : List Deposit) → Grows state (with_withdrawn n state)
withdrawn_grows n [] i d at = absurd cc
withdrawn_grows zero (k ∷ state) i d at = (d, at, refl, λ is. is)
withdrawn_grows (suc zero) (k ∷ state) zero d at =
    (as_withdrawn k, refl, ap (λ (x : Deposit). x.sent) (same_Some k d at), λ is. refl)
withdrawn_grows (suc zero) (k ∷ state) (suc i) d at = (d, at, refl, λ is. is)
withdrawn_grows (suc (suc n)) (k ∷ state) zero d at = (d, at, refl, λ is. is)
withdrawn_grows (suc (suc n)) (k ∷ state) (suc i) d at = withdrawn_grows (suc n) state i d at

changes_grow : (terms : Terms) (request : Asked) (state list : List Deposit) → Changes terms state request list
    → Grows state list
changes_grow terms (deposit caller project embargo bytes day) state list h =
    subst (Grows state) (sym h.1) (append_grows state (new_deposit (asked_deposit caller project embargo bytes) ∷ []))
changes_grow terms (withdraw caller project number day) state list h =
    subst (Grows state) (sym h.1) (withdrawn_grows number state)
changes_grow terms request state list h = absurd h

pub next_grows : (terms : Terms) (request : Asked) (state next : List Deposit) → IsNext terms state request next
    → Grows state next
next_grows terms request state next (inl h) = changes_grow terms request state next h
next_grows terms request state next (inr h) = grows_itself state next h.1

-- ---- a receipt

pub receipt_fields : (n m : ℕ) (e f : ℤ) → Receipt n e ≡ Receipt m f → (n ≡ m) × (e ≡ f)
receipt_fields n m e f h = (cc, cc)

-- the receipt of a deposit that is not taken is that of an equal one
pub receipt_first : (terms : Terms) (embargo : ℤ) (count : ℕ) (first : Option (ℕ × ℤ)) (n : ℕ) (e : ℤ) → Receipt n e ≡ receipt_of terms embargo count first → (Receipt n e ≢ Receipt (count + 1) embargo) → first ≡ Some (n, e)
receipt_first terms embargo count (Some was) n e h other = let f = receipt_fields n was.0 e was.1 h in ap (λ (k : ℕ). Some (k, was.1)) (sym f.0) ∙ ap (λ (x : ℤ). Some (n, x)) (sym f.1)
receipt_first terms embargo count None n e h other = absurd (full (nat_lt count terms.most) h)
  where
    full : (t : Bool) → Receipt n e ≡ cond t (Receipt (count + 1) embargo) Full → ⊥
    full true h = other h
    full false h = cc

get_last : (state : List Deposit) (d : Deposit) → slice_get (sents (state ++ d ∷ [])) (length state) ≡ Some d.sent
get_last [] d = refl
get_last (k ∷ state) d = get_last state d

receipt_held : (terms : Terms) (caller : Caller) (project : List ℕ) (embargo : ℤ) (bytes : List ℕ) (day : ℤ)
    (state next : List Deposit) (n : ℕ) (e : ℤ)
    → IsReply terms state (deposit caller project embargo bytes day) (Receipt n e)
    → IsNext terms state (deposit caller project embargo bytes day) next
    → held n (sents next) ≡ Some (asked_deposit caller project e bytes)
receipt_held terms caller project embargo bytes day state next n e is (inl h) =
    let received = (taken_received terms state caller project embargo bytes day (Receipt n e) is).0 h.0 in
    let fields = receipt_fields n (length state + 1) e embargo received in
    let number : n ≡ suc (length state) = omega (arith, fields.0) in
    let new = new_deposit (asked_deposit caller project embargo bytes) in
    ap (λ (l : List Deposit). held n (sents l)) h.1 ∙ ap (λ (k : ℕ). held k (sents (state ++ new ∷ []))) number
    ∙ get_last state new
    ∙ ap (λ (x : ℤ). Some (asked_deposit caller project x bytes)) (sym fields.1)
receipt_held terms caller project embargo bytes day state next n e is (inr h) =
    let first = first_equal 1 caller.firm project bytes (sents state) in
    let Stands = λ (r : Answer). r ≡ receipt_of terms embargo (length state) first in
    let fine =
    not_refused (decided terms caller project verbs.Deposit day) terms bytes Stands (Receipt n e) is (λ k x. cc) (λ x. cc)
    (λ l x. cc) in
    let equal =
    receipt_first terms embargo (length state) first n e fine.3
    (λ new. h.0 _ ((taken_received terms state caller project embargo bytes day (Receipt n e) is).1 new, refl)) in
    let at = first_at caller.firm project bytes 1 (sents state) n e equal in
    let number : n ≡ suc at.0 = omega (arith, at.1) in
    ap (λ (l : List Deposit). held n (sents l)) h.1 ∙ ap (λ (k : ℕ). held k (sents state)) number ∙ at.2

-- ---- a withdrawal

-- whether deposit n is withdrawn
abbrev pub withdrawn_at : ℕ → List Deposit → Option Bool
withdrawn_at n list = option_map (λ (e : Deposit). e.withdrawn) (held n list)

held_withdrawn : (n : ℕ) (state : List Deposit) (d : Deposit) → held n state ≡ Some d
    → held n (with_withdrawn n state) ≡ Some (as_withdrawn d)
held_withdrawn zero state d at = absurd cc
held_withdrawn (suc n) [] d at = absurd cc
held_withdrawn (suc zero) (k ∷ state) d at = ap (λ (x : Deposit). Some (as_withdrawn x)) (same_Some k d at)
held_withdrawn (suc (suc n)) (k ∷ state) d at = held_withdrawn (suc n) state d at

pub withdrawn_recorded : WithdrawnIsRecorded
withdrawn_recorded terms state next caller project number day is step =
    let own = (withdrawn_own terms state caller project number day number is).1 in
    let same : next ≡ with_withdrawn number state = elim step [ inl h ↦ h.1 | inr h ↦ absurd (h.0 _ (own, refl)) ] in
    (own.1.0, own.1.1, ap (held number) same ∙ held_withdrawn number state own.1.0 own.1.1)

withdrawn_held : (terms : Terms) (caller : Caller) (project : List ℕ) (number : ℕ) (day : ℤ)
    (state next : List Deposit) (n : ℕ) → IsReply terms state (withdraw caller project number day) (Withdrawn n)
    → IsNext terms state (withdraw caller project number day) next → withdrawn_at n next ≡ Some true
withdrawn_held terms caller project number day state next n is step =
    let own = (withdrawn_own terms state caller project number day n is).0 in
    let asked = withdraw caller project number day in
    let here = subst (λ (m : ℕ). IsReply terms state asked (Withdrawn m)) (sym own) is in
    let has = withdrawn_recorded terms state next caller project number day here step in
    ap (λ (m : ℕ). withdrawn_at m next) (sym own) ∙ ap (option_map (λ (d : Deposit). d.withdrawn)) has.2

-- ---- the answers to a list

sent_then : (n : ℕ) (state list : List Deposit) (d : Sent) → Grows state list → held n (sents state) ≡ Some d
    → held n (sents list) ≡ Some d
sent_then zero state list d grows at = absurd cc
sent_then (suc i) state list d grows at =
    let of = deposit_at state i d at in
    let kept = grows i of.0 of.1 in
    sent_at list i kept.0 kept.1 ∙ ap (λ (x : Sent). Some x) (kept.2 ∙ of.2)

withdrawn_then : (n : ℕ) (state list : List Deposit) → Grows state list → withdrawn_at n state ≡ Some true
    → withdrawn_at n list ≡ Some true
withdrawn_then zero state list grows is = absurd cc
withdrawn_then (suc i) state list grows is = by (slice_get state i) refl is
  where
    by : (o : Option Deposit) → slice_get state i ≡ o → option_map (λ (e : Deposit). e.withdrawn) o ≡ Some true
        → option_map (λ (e : Deposit). e.withdrawn) (slice_get list i) ≡ Some true
    by None at e = absurd cc
    by (Some d) at e =
        let kept = grows i d at in
        ap (option_map (λ (x : Deposit). x.withdrawn)) kept.1
        ∙ ap (λ (t : Bool). Some t) (kept.3 (same_Some d.withdrawn true e))

held_then : (state list : List Deposit) (request : Asked) (a : Answer) → Grows state list → IsHeldIn state request a
    → IsHeldIn list request a
held_then state list (deposit caller project embargo bytes day) (Receipt n e) grows h =
    sent_then n state list (asked_deposit caller project e bytes) grows h
held_then state list (withdraw caller project number day) (Withdrawn n) grows h = withdrawn_then n state list grows h
held_then state list request a grows h = tt

held_next : (terms : Terms) (state next : List Deposit) (request : Asked) (a : Answer) → IsReply terms state request a
    → IsNext terms state request next → IsHeldIn next request a
held_next terms state next (deposit caller project embargo bytes day) (Receipt n e) is step =
    receipt_held terms caller project embargo bytes day state next n e is step
held_next terms state next (withdraw caller project number day) (Withdrawn n) is step =
    withdrawn_held terms caller project number day state next n is step
held_next terms state next request a is step = tt

-- nothing is said of an answer that is none of the model
none_held : (list : List Deposit) (r : Asked) (a : Answer) → (IsModelAnswer a → ⊥) → IsHeldIn list r a
none_held list (deposit caller project embargo bytes day) (Receipt n e) none = absurd (none tt)
none_held list (withdraw caller project number day) (Withdrawn n) none = absurd (none tt)
none_held list r a none = tt

-- the deposits with receipts are in each list to which the last state grows
lasts : (terms : Terms) (state : List Deposit) (requests : List Asked) (answers : List Answer)
    (last list : List Deposit) → AreAnswers terms state requests answers last → Grows last list
    → Grows state last × AllZip (IsHeldIn list) requests answers
lasts terms state [] [] last list h there = (grows_itself state last h, tt)
lasts terms state (r ∷ requests) (a ∷ answers) last list h there =
    elim (first_answer terms state r requests a answers last h) [
      | inl failed ↦
          let none = λ (q : Asked). none_held list q StoreFailed (λ x. x) in
          let all = all_failed (IsHeldIn list) none requests answers failed.2 in
          (grows_itself state last failed.1, (subst (IsHeldIn list r) (sym failed.0) (none r), all))
      | inr (inl dry) ↦
          let more = lasts terms state requests answers last list dry.1 there in
          (more.0, (subst (IsHeldIn list r) (sym dry.0) (none_held list r NoMemory (λ x. x)), more.1))
      | inr (inr is) ↦
          let more = lasts terms is.2 requests answers last list is.4 there in
          let grows = grows_then is.2 last list more.0 there in
          let held = held_then is.2 list r a grows (held_next terms state is.2 r a is.1 is.3) in
          (grows_then state is.2 last (next_grows terms r state is.2 is.3) more.0, (held, more.1))
    ]
lasts terms state requests answers last list h there = absurd h

pub receipts_last : {K : Type 0} (keep : Ghosts K) (rules : List Rule) (old new : K) (requests : List Asked) (answers : List Answer) → Runs keep rules old new requests answers
    → (bytes : List ℕ) (list : List Deposit) → keep.may_leave new bytes list → AllZip (IsHeldIn list) requests answers
receipts_last keep rules old new requests answers runs bytes list may =
    let terms = terms_at keep rules old in
    let grows : Grows runs.last list = elim (runs.left bytes list may).1 [
      | inl same ↦ grows_itself runs.last list same
      | inr h ↦ changes_grow terms h.0 runs.last list h.2
    ] in
    (lasts terms (keep.deposits old) requests answers runs.last list runs.are_answers grows).1
