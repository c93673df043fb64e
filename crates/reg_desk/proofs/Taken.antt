-- The first equal deposit. A body is taken exactly where the reply is the receipt of a new number, and a deposit is
-- withdrawn exactly where the reply is so.
use Rattle.std.proofs.Common.{◌≡◌, ℕ, ◌+◌, ◌≤◌, ◌<◌, Bool, true, false, cond, Option, Some, None, List, [], ◌∷◌, length, refl, sym, ap, subst, ◌∙◌, arith, suc, ◌&&◌}
use Rattle.std.specs.Prelude.{ℤ, nat_lt, MatchBool, slice_get, option_map}
use Rattle.std.proofs.lemmas.Bool.{cond-true, lt-ltb, le-ltb, ltb-true, ltb-false, and_parts}
use Rattle.std.proofs.lemmas.Option.{slice_get_within, same_Some}
use Rattle.ags_rows.specs.declared.finding.Finding.{Finding}
use Rattle.ags_rows.specs.declared.TheConstants.{LIMIT}
use Rattle.ags_check.specs.Findings.{Findings as AreFindings}
use Rattle.ags_check.proofs.Lemmas.{one_list}
use Rattle.reg_policy.specs.declared.callers.Caller.{Caller}
use Rattle.reg_policy.specs.declared.subject.Decision.{Decision}
use Rattle.reg_policy.specs.declared.subject.Decision.TheVariants.{Permit, Deny}
use Rattle.reg_policy.specs.declared.subject.Verb.TheVariants as verbs
use Rattle.reg_store.specs.Deposit.{Deposit, sents}
use Rattle.reg_store.proofs.Lemmas.{length_sents}
use Rattle.reg_desk.specs.Asked.{deposit, withdraw}
use Rattle.reg_desk.specs.declared.answer.Answer.{Answer}
use Rattle.reg_desk.specs.declared.answer.Answer.TheVariants.{Receipt, Findings, Denied, Unknown, TooLarge, Full, Withdrawn}
use Rattle.reg_desk.specs.Machine.{Terms, decided, OrDenied, OrFound, OrRefused, first_equal, receipt_of, held, is_own, withdrawal_of, IsReply, IsTaken, IsWithdrawn}
use Rattle.reg_desk.specs.Laws.{TakenIsReceived, WithdrawnIsReplied}
use Rattle.std.specs.List.{position_from}
use Rattle.std.specs.Str.{bytes_eq}
use Rattle.std.proofs.lemmas.Slice.Eq.{bytes_eq-Decides}
use Rattle.reg_store.specs.Sent.{Sent, is_repeat, number_of}

-- the number alone
abbrev number_in : Option (ℕ × ℤ) → Option ℕ
number_in o = option_map (λ (p : ℕ × ℤ). p.0) o

-- the number that the store finds is that of the first equal deposit
number_is : (firm project bytes : List ℕ) (n : ℕ) (list : List Sent)
    → position_from (is_repeat firm project bytes) n list ≡ number_in (first_equal n firm project bytes list)
number_is firm project bytes n [] = refl
number_is firm project bytes n (d ∷ list) =
    step (is_repeat firm project bytes d) (position_from (is_repeat firm project bytes) (n + 1) list) (first_equal (n + 1) firm project bytes list) (number_is firm project bytes (n + 1) list)
  where
    step : (t : Bool) (rest : Option ℕ) (more : Option (ℕ × ℤ)) → rest ≡ number_in more → cond t (Some n) rest ≡ number_in (cond t (Some (n, d.embargo)) more)
    step true rest more same = refl
    step false rest more same = same

-- none is equal where the store finds none
pub none_held : (firm project bytes : List ℕ) (list : List Sent) → None ≡ number_of firm project bytes list → None ≡ first_equal 1 firm project bytes list
none_held firm project bytes list h = none (first_equal 1 firm project bytes list) (h ∙ number_is firm project bytes 1 list)
  where
    none : (o : Option (ℕ × ℤ)) → None ≡ number_in o → None ≡ o
    none None e = refl
    none (Some held) e = absurd cc

pub none_number : (firm project bytes : List ℕ) (n : ℕ) (list : List Sent) → first_equal n firm project bytes list ≡ None → position_from (is_repeat firm project bytes) n list ≡ None
none_number firm project bytes n list h = number_is firm project bytes n list ∙ ap number_in h

-- an equal deposit has this firm, this project and these bytes
repeat_is : (firm project bytes : List ℕ) (d : Sent) → is_repeat firm project bytes d ≡ true → d ≡ record { firm = firm; project = project; embargo = d.embargo; bytes = bytes }
repeat_is firm project bytes d e =
    let all = and_parts (bytes_eq d.firm firm) (bytes_eq d.project project && bytes_eq d.bytes bytes) e in
    let rest = and_parts (bytes_eq d.project project) (bytes_eq d.bytes bytes) all.1 in
    ap (λ (f : List ℕ). record { firm = f; project = d.project; embargo = d.embargo; bytes = d.bytes }) ((bytes_eq-Decides d.firm firm).0 all.0)
    ∙ ap (λ (p : List ℕ). record { firm = firm; project = p; embargo = d.embargo; bytes = d.bytes })
    ((bytes_eq-Decides d.project project).0 rest.0)
    ∙ ap (λ (b : List ℕ). record { firm = firm; project = project; embargo = d.embargo; bytes = b })
    ((bytes_eq-Decides d.bytes bytes).0 rest.1)

abbrev pub IsFirstAt : List ℕ → List ℕ → List ℕ → ℕ → List Sent → ℕ → ℤ → Type 0
IsFirstAt firm project bytes n list k e = (i : ℕ) × (k ≡ n + i) × (slice_get list i ≡ Some (record { firm = firm; project = project; embargo = e; bytes = bytes }))

-- the first equal deposit is this one, at its place
pub first_at : (firm project bytes : List ℕ) (n : ℕ) (list : List Sent) (k : ℕ) (e : ℤ) → first_equal n firm project bytes list ≡ Some (k, e) → IsFirstAt firm project bytes n list k e
first_at firm project bytes n [] k e h = absurd cc
first_at firm project bytes n (d ∷ list) k e h = step (is_repeat firm project bytes d) refl h (first_at firm project bytes (n + 1) list k e)
  where
    step : (t : Bool) → is_repeat firm project bytes d ≡ t → cond t (Some (n, d.embargo)) (first_equal (n + 1) firm project bytes list) ≡ Some (k, e)
        → (first_equal (n + 1) firm project bytes list ≡ Some (k, e) → IsFirstAt firm project bytes (n + 1) list k e) → IsFirstAt firm project bytes n (d ∷ list) k e
    step true is h rest =
        let pair : (n, d.embargo) ≡ (k, e) = same_Some (n, d.embargo) (k, e) h in
        let number : n ≡ k = ap (λ (p : ℕ × ℤ). p.0) pair in
        let day : d.embargo ≡ e = ap (λ (p : ℕ × ℤ). p.1) pair in
        (0, omega (arith, number), ap (λ (x : Sent). Some x) (repeat_is firm project bytes d is ∙ ap (λ (x : ℤ). record { firm = firm; project = project; embargo = x; bytes = bytes }) day))
    step false is h rest = let r = rest h in (suc r.0, omega (arith, r.1), r.2)

-- the deposit of the number that the store finds
pub first_some : (firm project bytes : List ℕ) (list : List Sent) (n : ℕ) → number_of firm project bytes list ≡ Some n
    → (e : ℤ) × (first_equal 1 firm project bytes list ≡ Some (n, e)) × IsFirstAt firm project bytes 1 list n e
first_some firm project bytes list n found =
    let some = numbered (first_equal 1 firm project bytes list) (sym (number_is firm project bytes 1 list) ∙ found) in
    (some.0, some.1, first_at firm project bytes 1 list n some.0 some.1)
  where
    numbered : (o : Option (ℕ × ℤ)) → number_in o ≡ Some n → (e : ℤ) × (o ≡ Some (n, e))
    numbered None e = absurd cc
    numbered (Some p) e = (p.1, ap (λ (m : ℕ). Some (m, p.1)) (same_Some p.0 n e))

-- what holds of the receipt
abbrev pub IsReceipt : Terms → List Deposit → Caller → List ℕ → ℤ → List ℕ → Answer → Type 0
IsReceipt terms state caller project embargo bytes r =
    r ≡ receipt_of terms embargo (length state) (first_equal 1 caller.firm project bytes (sents state))

-- ---- a body that is taken

pub clean_stands : (terms : Terms) (bytes : List ℕ) (P : Answer → Type 0) (r : Answer) → length bytes ≤ LIMIT → AreFindings terms.dictionary bytes [] → OrRefused terms bytes P r → P r
clean_stands terms bytes P r small clean h =
    let Found = (found : List Finding) × AreFindings terms.dictionary bytes found × OrFound found P r in
    let found : Found = subst (λ (b : Bool). MatchBool b (r ≡ TooLarge) Found) (le-ltb LIMIT (length bytes) small) h in
    subst (λ (l : List Finding). OrFound l P r) (one_list terms.dictionary bytes found.0 [] found.1 clean) found.2

received : (terms : Terms) (state : List Deposit) (caller : Caller) (project : List ℕ) (embargo : ℤ) (bytes : List ℕ)
    (day : ℤ) (reply : Answer) → IsReply terms state (deposit caller project embargo bytes day) reply
    → IsTaken terms state caller project bytes day → reply ≡ Receipt (length state + 1) embargo
received terms state caller project embargo bytes day reply h t =
    let stands = IsReceipt terms state caller project embargo bytes in
    let permitted = subst (λ (d : Decision). OrDenied d (OrRefused terms bytes stands) reply) t.0.1 h in
    clean_stands terms bytes stands reply t.1 t.2 permitted
    ∙ ap (receipt_of terms embargo (length state)) t.3
    ∙ cond-true (nat_lt (length state) terms.most) (Receipt (length state + 1) embargo) Full (lt-ltb (length state) terms.most t.4)

-- ---- the receipt of a new number

pub not_denied : (d : Decision) (P : Answer → Type 0) (r : Answer) → OrDenied d P r → ((n : ℕ) → r ≡ Denied n → ⊥)
    → (n : ℕ) × (d ≡ Permit n) × P r
not_denied (Permit n) P r h never = (n, refl, h)
not_denied (Deny n) P r h never = absurd (never n h)

not_where : (t : Bool) (A B : Type 0) → MatchBool t A B → (A → ⊥) → (t ≡ false) × B
not_where true A B h never = absurd (never h)
not_where false A B h never = (refl, h)

not_found : (found : List Finding) (P : Answer → Type 0) (r : Answer) → OrFound found P r → ((l : List Finding) → r ≡ Findings l → ⊥) → (found ≡ []) × P r
not_found [] P r h never = (refl, h)
not_found (f ∷ found) P r h never = absurd (never (f ∷ found) h)

-- a reply that is no refusal: the body is permitted, not above the limit of bytes and without findings, and the rest
-- holds
pub not_refused : (d : Decision) (terms : Terms) (bytes : List ℕ) (P : Answer → Type 0) (r : Answer)
    → OrDenied d (OrRefused terms bytes P) r → ((n : ℕ) → r ≡ Denied n → ⊥) → (r ≡ TooLarge → ⊥)
    → ((l : List Finding) → r ≡ Findings l → ⊥)
    → ((n : ℕ) × (d ≡ Permit n)) × (nat_lt LIMIT (length bytes) ≡ false) × AreFindings terms.dictionary bytes [] × P r
not_refused d terms bytes P r h denied large findings =
    let Found = (l : List Finding) × AreFindings terms.dictionary bytes l × OrFound l P r in
    let permit = not_denied d (OrRefused terms bytes P) r h denied in
    let small = not_where (nat_lt LIMIT (length bytes)) (r ≡ TooLarge) Found permit.2 large in
    let clean = not_found small.1.0 P r small.1.2 findings in
    ((permit.0, permit.1), small.0, subst (AreFindings terms.dictionary bytes) clean.0 small.1.1, clean.1)

room_for : (t : Bool) (number : ℕ) (embargo : ℤ) → cond t (Receipt number embargo) Full ≡ Receipt number embargo → t ≡ true
room_for true number embargo h = refl
room_for false number embargo h = absurd cc

new_number : (terms : Terms) (embargo : ℤ) (count : ℕ) (first : Option (ℕ × ℤ)) → ((k : ℕ) (e : ℤ) → first ≡ Some (k, e) → k < 1 + count) → receipt_of terms embargo count first ≡ Receipt (count + 1) embargo
    → (first ≡ None) × (count < terms.most)
new_number terms embargo count (Some held) low h = let same : held.0 ≡ count + 1 = cc in let lt = low held.0 held.1 refl in absurd (omega (arith, same, lt))
new_number terms embargo count None low h = (refl, ltb-true count terms.most (room_for (nat_lt count terms.most) (count + 1) embargo h))

taken : (terms : Terms) (state : List Deposit) (caller : Caller) (project : List ℕ) (embargo : ℤ) (bytes : List ℕ)
    (day : ℤ) (reply : Answer)
    → IsReply terms state (deposit caller project embargo bytes day) reply → reply ≡ Receipt (length state + 1) embargo
    → IsTaken terms state caller project bytes day
taken terms state caller project embargo bytes day reply h is =
    let stands = IsReceipt terms state caller project embargo bytes in
    let fine =
    not_refused (decided terms caller project verbs.Deposit day) terms bytes stands reply h (λ n e. cc) (λ e. cc)
    (λ l e. cc) in
    let first = first_equal 1 caller.firm project bytes (sents state) in
    let held_low : (k : ℕ) (e : ℤ) → first ≡ Some (k, e) → k < 1 + length state =
    λ k e at. let place = first_at caller.firm project bytes 1 (sents state) k e at in
    omega (arith, place.1, slice_get_within (sents state) place.0 _ place.2, length_sents state) in
    let new = new_number terms embargo (length state) first held_low (sym fine.3 ∙ is) in
    (fine.0, ltb-false LIMIT (length bytes) fine.1, fine.2, new.0, new.1)

pub taken_received : TakenIsReceived
taken_received terms state caller project embargo bytes day reply h =
    (received terms state caller project embargo bytes day reply h, taken terms state caller project embargo bytes day reply h)

-- ---- a deposit that is withdrawn

-- the caller's own deposit of the number is replied to be withdrawn
pub own_reply : (caller : Caller) (project : List ℕ) (number : ℕ) (o : Option Deposit) (kept : Deposit) → o ≡ Some kept
    → is_own caller project kept ≡ true → withdrawal_of caller project number o ≡ Withdrawn number
own_reply caller project number o kept holds own =
    ap (withdrawal_of caller project number) holds ∙ ap (λ (t : Bool). cond t (Withdrawn number) Unknown) own

-- what is replied to be withdrawn is the caller's own deposit of the number
pub replied_own : (caller : Caller) (project : List ℕ) (number n : ℕ) (o : Option Deposit)
    → withdrawal_of caller project number o ≡ Withdrawn n
    → (number ≡ n) × ((kept : Deposit) × (o ≡ Some kept) × (is_own caller project kept ≡ true))
replied_own caller project number n None is = absurd cc
replied_own caller project number n (Some kept) is = by (is_own caller project kept) refl is
  where
    by : (t : Bool) → is_own caller project kept ≡ t → cond t (Withdrawn number) Unknown ≡ Withdrawn n
        → (number ≡ n) × ((d : Deposit) × (Some kept ≡ Some d) × (is_own caller project d ≡ true))
    by true own e = (cc, (kept, refl, own))
    by false own e = absurd cc

-- a deposit that is replied to be withdrawn is withdrawn, under the number that was asked
pub withdrawn_own : (terms : Terms) (state : List Deposit) (caller : Caller) (project : List ℕ) (number : ℕ) (day : ℤ)
    (n : ℕ) → IsReply terms state (withdraw caller project number day) (Withdrawn n)
    → (number ≡ n) × IsWithdrawn terms state caller project number day
withdrawn_own terms state caller project number day n h =
    let Stands = λ (r : Answer). r ≡ withdrawal_of caller project number (held number state) in
    let permit = not_denied (decided terms caller project verbs.Withdraw day) Stands (Withdrawn n) h (λ k e. cc) in
    let own = replied_own caller project number n (held number state) (sym permit.2) in
    (own.0, ((permit.0, permit.1), own.1))

pub withdrawn_replied : WithdrawnIsReplied
withdrawn_replied terms state caller project number day reply h =
    let o = held number state in
    let Reply = IsReply terms state (withdraw caller project number day) in (
      λ w.
          subst (λ (d : Decision). OrDenied d (λ r. r ≡ withdrawal_of caller project number o) reply) w.0.1 h
          ∙ own_reply caller project number o w.1.0 w.1.1 w.1.2,
      λ is. (withdrawn_own terms state caller project number day number (subst Reply is h)).1,
    )
