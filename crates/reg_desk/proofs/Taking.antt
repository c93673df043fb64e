-- A deposit: taken once, with a receipt.
use Rattle.std.proofs.Common.{◌≡◌, ◌≢◌, ℕ, ◌+◌, ◌-◌, ◌<◌, ◌≤◌, Bool, true, false, cond, Option, Some, None, Ok, Err, List, [], ◌∷◌, ◌++◌, refl, sym, ap, subst, ◌∙◌, inr, arith, length-append}
use Rattle.std.specs.Prelude.{ℤ, nat_lt, length, slice_get, Result}
use Rattle.std.proofs.lemmas.Bool.{cond_both, le-ltb, lt-ltb}
use Rattle.std.proofs.lemmas.Option.{none-some, slice_get_within}
use Rattle.ags_rows.specs.declared.TheConstants.{LIMIT}
use Rattle.ags_dict.specs.Entries.{Entries}
use Rattle.ags_check.specs.Findings.{Findings as AreFindings}
use Rattle.reg_policy.specs.declared.rule.Rule.{Rule}
use Rattle.reg_policy.specs.declared.callers.Caller.{Caller}
use Rattle.reg_policy.specs.declared.subject.Decision.{Decision}
use Rattle.reg_policy.specs.declared.subject.Decision.TheVariants.{Permit}
use Rattle.reg_policy.specs.declared.subject.Verb.TheVariants as verbs
use Rattle.reg_store.specs.Sent.{Sent, number_of}
use Rattle.reg_store.specs.Deposit.{Deposit, sents, new_deposit}
use Rattle.reg_store.proofs.Lemmas.{length_sents, deposit_at}
use Rattle.reg_store.specs.Keep.{IsHeadOf}
use Rattle.reg_store.specs.declared.keep.Keep.{Ghosts}
use Rattle.reg_store.specs.declared.keep.KeepError.{KeepError}
use Rattle.reg_store.specs.declared.keep.KeptHead.{KeptHead}
use Rattle.reg_store.specs.declared.keep.KeepError.TheVariants as errors
use Rattle.reg_desk.specs.Asked.{Asked, deposit}
use Rattle.reg_desk.specs.declared.answer.Answer.{Answer}
use Rattle.reg_desk.specs.declared.answer.Answer.TheVariants.{Receipt, Full}
use Rattle.reg_desk.specs.Machine.{Terms, decided, OrRefused, first_equal, receipt_of, IsReply, IsTaken, asked_deposit, IsNext}
use Rattle.reg_desk.specs.Serving.{AsksStore, IsRefusal, terms_at, OnlyReads, Serves, answer_of}
use Rattle.reg_desk.proofs.Taken.{IsReceipt, taken_received, first_some}
use Rattle.reg_desk.proofs.Bodies.{refused_none, refusal_serves}
use Rattle.reg_desk.proofs.Serves.{Makes, IsMaking, made_serves, unmade_serves, one_owed, asks_of, replies_serves, permitted_reply}

-- ---- the reply

-- a body that is permitted, not too large and without findings
pub record IsFine (terms : Terms) (caller : Caller) (project bytes : List ℕ) (day : ℤ) : Type 0 where
  pub number : ℕ
  pub permitted : decided terms caller project verbs.Deposit day ≡ Permit number
  pub small : length bytes ≤ LIMIT
  pub clean : AreFindings terms.dictionary bytes []

pub fine_of : (terms : Terms) (caller : Caller) (project bytes : List ℕ) (day : ℤ) (given : Entries) (n : ℕ) → decided terms caller project verbs.Deposit day ≡ Permit n → length bytes ≤ LIMIT → given ≡ terms.dictionary
    → AreFindings given bytes [] → IsFine terms caller project bytes day
fine_of terms caller project bytes day given n permit small same clean = record { number = n; permitted = permit; small = small; clean = subst (λ (e : Entries). AreFindings e bytes []) same clean }

receipt_asks : (terms : Terms) (embargo : ℤ) (count : ℕ) (first : Option (ℕ × ℤ)) → AsksStore (λ r. r ≡ receipt_of terms embargo count first)
receipt_asks terms embargo count (Some held) = ((λ n e. cc, λ e. cc), λ found e. cc, λ e. cc)
receipt_asks terms embargo count None =
    cond_both (nat_lt count terms.most) (Receipt (count + 1) embargo) Full (λ a. AsksStore (λ r. r ≡ a))
    (λ _. ((λ n e. cc, λ e. cc), λ found e. cc, λ e. cc)) (λ _. ((λ n e. cc, λ e. cc), λ found e. cc, λ e. cc))

-- ---- what is not taken

-- where no equal deposit is held: the receipt of a new one, or that there is no room
receipt_none : (terms : Terms) (embargo : ℤ) (count : ℕ) (first : Option (ℕ × ℤ)) (room : Bool) → first ≡ None
    → nat_lt count terms.most ≡ room
    → cond room (Receipt (count + 1) embargo) Full ≡ receipt_of terms embargo count first
receipt_none terms embargo count first room none is =
    ap (λ (t : Bool). cond t (Receipt (count + 1) embargo) Full) (sym is) ∙ ap (receipt_of terms embargo count) (sym none)

refusal_other : (terms : Terms) (bytes : List ℕ) (n : ℕ) (e : ℤ) (answer : Answer) → IsRefusal terms.dictionary bytes answer → answer ≢ Receipt n e
refusal_other terms bytes n e answer refusal same = subst (IsRefusal terms.dictionary bytes) same refusal

-- ---- what the store finds

-- its number is one of the list
pub found_within : (firm project bytes : List ℕ) (state : List Deposit) (n : ℕ)
    → number_of firm project bytes (sents state) ≡ Some n → (0 < n) × (n ≤ length state)
found_within firm project bytes state n found =
    let place = (first_some firm project bytes (sents state) n found).2 in
    (omega (arith, place.1), omega (arith, place.1, slice_get_within (sents state) place.0 _ place.2, length_sents state))

-- the first equal deposit, by its number and the head that is kept of it
pub first_found : (firm project bytes : List ℕ) (state : List Deposit) (n : ℕ) (head : KeptHead)
    → number_of firm project bytes (sents state) ≡ Some n
    → ((d : Deposit) → slice_get state (n - 1) ≡ Some d → IsHeadOf d head)
    → first_equal 1 firm project bytes (sents state) ≡ Some (n, head.embargo)
first_found firm project bytes state n head found of_head =
    let first = first_some firm project bytes (sents state) n found in
    let sent : Sent = record { firm = firm; project = project; embargo = first.0; bytes = bytes } in
    let place : first.2.0 ≡ n - 1 = omega (arith, first.2.1) in
    let d = deposit_at state (n - 1) sent (subst (λ (i : ℕ). slice_get (sents state) i ≡ Some sent) place first.2.2) in
    first.1 ∙ ap (λ (e : ℤ). Some (n, e)) (sym ((of_head d.0 d.1).embargo ∙ ap (λ (s : Sent). s.embargo) d.2))

-- the same where the bytes are these
pub first_of : (firm project bytes found : List ℕ) (list : List Sent) (first : Option (ℕ × ℤ)) → found ≡ bytes
    → first ≡ first_equal 1 firm project found list → first_equal 1 firm project bytes list ≡ first
first_of firm project bytes found list first same is = ap (λ (b : List ℕ). first_equal 1 firm project b list)
    (sym same) ∙ sym is

-- ---- a deposit that no equal one is held of

-- a body that is fine is taken where no equal one is held and there is room
pub is_taken : {K : Type 0} (keep : Ghosts K) (rules : List Rule) (caller : Caller) (project bytes : List ℕ) (day : ℤ) (old mid : K)
    → IsFine (terms_at keep rules old) caller project bytes day → OnlyReads keep old mid false
    → (keep.is_sound mid → first_equal 1 caller.firm project bytes (sents (keep.deposits old)) ≡ None)
    → (keep.is_sound mid → length (keep.deposits mid) < keep.limit mid)
    → keep.is_sound mid → IsTaken (terms_at keep rules old) (keep.deposits old) caller project bytes day
is_taken keep rules caller project bytes day old mid fine reads unheld room s =
    ((fine.number, fine.permitted), fine.small, fine.clean, unheld s, omega (arith, room s, ap length (reads.same s refl), reads.same_limit))

-- ---- the answers to a deposit

-- the call that appends the deposit
abbrev pub Appends : {K : Type 0} → Ghosts K → Sent → K → K → Result ℕ KeepError → Type 0
Appends keep d old new result = Makes keep (keep.deposits old ++ new_deposit d ∷ []) old new result

module _ {K : Type 0} (keep : Ghosts K) (rules : List Rule) (caller : Caller) (project : List ℕ) (embargo : ℤ) (bytes : List ℕ) (day : ℤ) (old : K) where
  abbrev terms : Terms
  terms = terms_at keep rules old

  abbrev state : List Deposit
  state = keep.deposits old

  abbrev request : Asked
  request = deposit caller project embargo bytes day

  abbrev ruling : Decision
  ruling = decided terms caller project verbs.Deposit day

  abbrev first : Option (ℕ × ℤ)
  first = first_equal 1 caller.firm project bytes (sents state)

  abbrev Stands : Answer → Type 0
  Stands = IsReceipt terms state caller project embargo bytes

  fine_reply : (answer : Answer) → IsFine terms caller project bytes day → Stands answer → IsReply terms state request answer
  fine_reply answer fine is =
      permitted_reply ruling fine.number (OrRefused terms bytes Stands) answer fine.permitted (refused_none terms bytes Stands answer fine.small fine.clean is)

  pub fine_asks : IsFine terms caller project bytes day → AsksStore (IsReply terms state request)
  fine_asks fine =
      let receipt = receipt_of terms embargo (length state) first in
      asks_of Stands (IsReply terms state request) (λ reply is. one_owed terms state request receipt reply is (fine_reply receipt fine refl))
      (receipt_asks terms embargo (length state) first)

  -- a reply that is not the receipt of a new deposit takes nothing
  untaken : (answer : Answer) → answer ≢ Receipt (length state + 1) embargo → IsReply terms state request answer → IsNext terms state request state
  untaken answer other is = inr (λ list change. other ((taken_received terms state caller project embargo bytes day answer is).0 change.0), refl)

  pub deposit_refused : (answer : Answer) (k : ℕ) → keep.has_failed old ≡ false → ruling ≡ Permit k → IsRefusal (keep.dictionary old) bytes answer
      → Serves keep rules request old old answer
  deposit_refused answer k works permit refusal =
      refusal_serves keep rules request old answer ruling k bytes Stands works permit refusal
      (receipt_asks terms embargo (length state) first).0 (λ r h. h) (λ r h. h)
      (λ r h is. untaken r (refusal_other terms bytes (length state + 1) embargo r h) is)

  -- an equal deposit is held
  pub deposit_repeats : (new : K) (n : ℕ) (e : ℤ) → IsFine terms caller project bytes day → OnlyReads keep old new false
      → (keep.is_sound new → first ≡ Some (n, e)) → Serves keep rules request old new (Receipt n e)
  deposit_repeats new n e fine reads is =
      replies_serves keep rules request old new (Receipt n e) reads tt
      (λ s. ∣ fine_reply (Receipt n e) fine (ap (receipt_of terms embargo (length state)) (sym (is s))) ∣₁)
      (λ s. inr (λ list change. none-some (n, e) (sym change.0.3 ∙ is s), refl)) (fine_asks fine).0

  appending : (mid new : K) (result : Result ℕ KeepError) → IsFine terms caller project bytes day → OnlyReads keep old mid false
      → (keep.is_sound mid → IsTaken terms state caller project bytes day)
      → Appends keep (asked_deposit caller project embargo bytes) mid new result
      → IsMaking keep rules request old mid new (keep.deposits mid ++ new_deposit (asked_deposit caller project embargo bytes) ∷ []) result
  appending mid new result fine reads taken appends = record {
    reads = reads;
    makes = appends;
    change = λ s. (taken s, ap (λ (l : List Deposit). l ++ new_deposit (asked_deposit caller project embargo bytes) ∷ []) (reads.same s refl));
    asks = fine_asks fine;
  }

  pub deposit_added : (mid new : K) (n : ℕ) → IsFine terms caller project bytes day → OnlyReads keep old mid false
      → (keep.is_sound mid → IsTaken terms state caller project bytes day)
      → Appends keep (asked_deposit caller project embargo bytes) mid new (Ok n) → (keep.is_sound new → n ≡ length (keep.deposits new))
      → Serves keep rules request old new (Receipt n embargo)
  deposit_added mid new n fine reads taken appends number =
      let d = new_deposit (asked_deposit caller project embargo bytes) in
      let count : keep.is_sound new → n ≡ length state + 1 = λ s.
      let same = ap length (reads.same (appends.sound s) refl) in
      omega (arith, number s, ap length (appends.added s), length-append (keep.deposits mid) (d ∷ []), same) in
      made_serves keep rules request old mid new (keep.deposits mid ++ d ∷ []) n (Receipt n embargo)
      (appending mid new (Ok n) fine reads taken appends) tt
      (λ s.
      let is = taken (appends.sound s) in
      fine_reply (Receipt n embargo) fine
      (ap (λ (k : ℕ). Receipt k embargo) (count s) ∙ receipt_none terms embargo (length state) first true is.3 (lt-ltb (length state) terms.most is.4)))

  -- there is no room
  pub deposit_full : (mid : K) → IsFine terms caller project bytes day → OnlyReads keep old mid false → (keep.is_sound mid → first ≡ None)
      → (keep.is_sound mid → keep.limit mid ≤ length (keep.deposits mid)) → Serves keep rules request old mid Full
  deposit_full mid fine reads unheld full =
      let no_room : keep.is_sound mid → terms.most ≤ length state = λ s. omega (arith, full s, ap length (reads.same s refl), reads.same_limit) in
      replies_serves keep rules request old mid Full reads tt
      (λ s. ∣ fine_reply Full fine (receipt_none terms embargo (length state) first false (unheld s) (le-ltb (length state) terms.most (no_room s))) ∣₁)
      (λ s. inr (λ list change. omega (arith, change.0.4, no_room s), refl)) (fine_asks fine).0

  -- the store refuses to append
  pub deposit_unadded : (mid new : K) (e : KeepError) → IsFine terms caller project bytes day → OnlyReads keep old mid false
      → (keep.is_sound mid → IsTaken terms state caller project bytes day)
      → Appends keep (asked_deposit caller project embargo bytes) mid new (Err e)
      → (keep.is_sound new → e ≡ errors.Full → length (keep.deposits mid) ≡ keep.limit mid)
      → Serves keep rules request old new (answer_of e)
  deposit_unadded mid new e fine reads taken appends full =
      unmade_serves keep rules request old mid new (keep.deposits mid ++ new_deposit (asked_deposit caller project embargo bytes) ∷ []) e
      (appending mid new (Err e) fine reads taken appends)
      (λ s is.
      let then = appends.sound s in
      omega (arith, full s is, ap length (reads.same then refl), reads.same_limit, (taken then).4))
