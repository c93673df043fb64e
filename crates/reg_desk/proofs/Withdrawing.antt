-- A withdrawal: a firm's own deposit is withdrawn, and stays held.
use Rattle.std.proofs.Common.{◌≡◌, ◌≢◌, ◌<◌, ◌≤◌, ◌-◌, ℕ, zero, suc, Bool, true, false, cond, Option, Some, None, Ok, Err, List, refl, sym, ap, subst, ◌∙◌, inl, inr, arith}
use Rattle.std.specs.Prelude.{ℤ, slice_get, length, Result, ◌&&◌}
use Rattle.std.specs.Str.{bytes_eq}
use Rattle.std.proofs.lemmas.Bool.{true≢false, cond_both}
use Rattle.std.proofs.lemmas.Option.{same_Some, slice_get_within}
use Rattle.reg_policy.specs.declared.rule.Rule.{Rule}
use Rattle.reg_policy.specs.declared.callers.Caller.{Caller}
use Rattle.reg_policy.specs.declared.subject.Decision.{Decision}
use Rattle.reg_policy.specs.declared.subject.Decision.TheVariants.{Permit}
use Rattle.reg_policy.specs.declared.subject.Verb.TheVariants as verbs
use Rattle.reg_store.specs.Deposit.{Deposit, with_withdrawn}
use Rattle.reg_store.proofs.Lemmas.{withdrawn_again}
use Rattle.reg_store.specs.Keep.{IsHeadOf}
use Rattle.reg_store.specs.declared.keep.Keep.{Ghosts}
use Rattle.reg_store.specs.declared.keep.KeepError.{KeepError}
use Rattle.reg_store.specs.declared.keep.KeepError.TheVariants as errors
use Rattle.reg_store.specs.declared.keep.KeptHead.{KeptHead}
use Rattle.reg_desk.specs.Asked.{Asked, withdraw}
use Rattle.reg_desk.specs.declared.answer.Answer.{Answer}
use Rattle.reg_desk.specs.declared.answer.Answer.TheVariants.{Unknown, Withdrawn}
use Rattle.reg_desk.specs.Machine.{Terms, decided, held, is_own, withdrawal_of, IsReply}
use Rattle.reg_desk.specs.Serving.{AsksStore, withdrawn_of, terms_at, OnlyReads, Serves, answer_of}
use Rattle.reg_desk.proofs.Drawing.{held_at}
use Rattle.reg_desk.proofs.Taken.{own_reply}
use Rattle.reg_desk.proofs.Serves.{Makes, IsMaking, made_serves, unmade_serves, asks_of, replies_serves, permitted_reply, permit_stands}

-- ---- whether a firm's own deposit is withdrawn

held_within : (state : List Deposit) (number : ℕ) (d : Deposit) → held number state ≡ Some d
    → (0 < number) × (number ≤ length state)
held_within state zero d holds = absurd cc
held_within state (suc n) d holds = let lt = slice_get_within state n d holds in (omega arith, omega (arith, lt))

held_place : (state : List Deposit) (number : ℕ) (d : Deposit) → held number state ≡ Some d
    → slice_get state (number - 1) ≡ Some d
held_place state zero d holds = absurd cc
held_place state (suc n) d holds =
    let e : n ≡ suc n - 1 = omega arith in subst (λ (i : ℕ). slice_get state i ≡ Some d) e holds

-- by its head, which is the project's and the firm's
pub head_withdrawn : (caller : Caller) (project : List ℕ) (state : List Deposit) (number : ℕ) (head : KeptHead)
    → 0 < number → number ≤ length state
    → ((d : Deposit) → slice_get state (number - 1) ≡ Some d → IsHeadOf d head) → bytes_eq head.project project ≡ true
    → bytes_eq head.firm caller.firm ≡ true
    → Some head.withdrawn ≡ withdrawn_of caller project (held number state)
head_withdrawn caller project state number head low high read of_project of_firm =
    let d = held_at state number low high in
    let of_head = read d.0 d.1 in
    let own : is_own caller project d.0 ≡ true =
    ap (λ (p : List ℕ). bytes_eq p project && bytes_eq d.0.sent.firm caller.firm) (sym of_head.project)
    ∙ ap (λ (f : List ℕ). bytes_eq head.project project && bytes_eq f caller.firm) (sym of_head.firm)
    ∙ ap (λ (t : Bool). t && bytes_eq head.firm caller.firm) of_project ∙ of_firm in
    ap (λ (w : Bool). Some w) of_head.withdrawn ∙ ap (λ (t : Bool). cond t (Some d.0.withdrawn) None) (sym own)
    ∙ sym (ap (withdrawn_of caller project) d.2)

-- the deposit, withdrawn or not
pub record IsOwned (caller : Caller) (project : List ℕ) (held : Option Deposit) (withdrawn : Bool) : Type 0 where
  pub kept : Deposit
  pub holds : held ≡ Some kept
  pub own : is_own caller project kept ≡ true
  pub same : kept.withdrawn ≡ withdrawn

owned : (caller : Caller) (project : List ℕ) (o : Option Deposit) (withdrawn : Bool)
    → Some withdrawn ≡ withdrawn_of caller project o → IsOwned caller project o withdrawn
owned caller project None withdrawn is = absurd cc
owned caller project (Some kept) withdrawn is = step (is_own caller project kept) refl is
  where
    step : (t : Bool) → is_own caller project kept ≡ t → Some withdrawn ≡ cond t (Some kept.withdrawn) None
        → IsOwned caller project (Some kept) withdrawn
    step true own e = record { kept = kept; holds = refl; own = own; same = sym (same_Some withdrawn kept.withdrawn e) }
    step false own e = absurd cc

-- ---- the reply

unowned_reply : (caller : Caller) (project : List ℕ) (number : ℕ) (o : Option Deposit) → None ≡ withdrawn_of caller project o
    → (Unknown ≡ withdrawal_of caller project number o)
    × ((kept : Deposit) → o ≡ Some kept → is_own caller project kept ≡ true → ⊥)
unowned_reply caller project number None is = (refl, λ kept holds own. cc)
unowned_reply caller project number (Some d) is = step (is_own caller project d) refl is
  where
    step : (t : Bool) → is_own caller project d ≡ t → None ≡ cond t (Some d.withdrawn) None
        → (Unknown ≡ cond t (Withdrawn number) Unknown)
        × ((kept : Deposit) → Some d ≡ Some kept → is_own caller project kept ≡ true → ⊥)
    step true own e = absurd cc
    step false own e = (
      refl,
      λ kept holds is_true.
          true≢false (sym is_true ∙ ap (is_own caller project) (sym (same_Some d kept holds)) ∙ own),
    )

withdrawal_asks : (caller : Caller) (project : List ℕ) (number : ℕ) (o : Option Deposit)
    → AsksStore (λ r. r ≡ withdrawal_of caller project number o)
withdrawal_asks caller project number None = ((λ n e. cc, λ e. cc), λ found e. cc, λ e. cc)
withdrawal_asks caller project number (Some kept) =
    cond_both (is_own caller project kept) (Withdrawn number) Unknown (λ a. AsksStore (λ r. r ≡ a))
    (λ _. ((λ n e. cc, λ e. cc), λ found e. cc, λ e. cc)) (λ _. ((λ n e. cc, λ e. cc), λ found e. cc, λ e. cc))

abbrev IsWithdrawal : List Deposit → Caller → List ℕ → ℕ → Answer → Type 0
IsWithdrawal state caller project number r = r ≡ withdrawal_of caller project number (held number state)

pub withdraw_asks : (terms : Terms) (state : List Deposit) (caller : Caller) (project : List ℕ) (number : ℕ) (day : ℤ)
    (k : ℕ) → decided terms caller project verbs.Withdraw day ≡ Permit k
    → AsksStore (IsReply terms state (withdraw caller project number day))
withdraw_asks terms state caller project number day k permit =
    let Stands = IsWithdrawal state caller project number in
    asks_of Stands (IsReply terms state (withdraw caller project number day))
    (λ reply is. permit_stands (decided terms caller project verbs.Withdraw day) k Stands reply permit is)
    (withdrawal_asks caller project number (held number state))

-- ---- the next state

-- a deposit that is withdrawn already
still_withdrawn : (caller : Caller) (project : List ℕ) (number : ℕ) (state : List Deposit)
    → IsOwned caller project (held number state) true → state ≡ with_withdrawn number state
still_withdrawn caller project number state own =
    sym (withdrawn_again state number own.kept (held_within state number own.kept own.holds).0
    (held_place state number own.kept own.holds) own.same)

-- ---- the answers to a withdrawal

module _ {K : Type 0} (keep : Ghosts K) (rules : List Rule) (caller : Caller) (project : List ℕ) (number : ℕ) (day : ℤ) (old : K) where
  abbrev terms : Terms
  terms = terms_at keep rules old

  abbrev state : List Deposit
  state = keep.deposits old

  abbrev request : Asked
  request = withdraw caller project number day

  abbrev ruling : Decision
  ruling = decided terms caller project verbs.Withdraw day

  pub withdraw_unknown : (new : K) (k : ℕ) → ruling ≡ Permit k → OnlyReads keep old new false
      → (keep.is_sound new → None ≡ withdrawn_of caller project (held number state)) → Serves keep rules request old new Unknown
  withdraw_unknown new k permit reads is =
      let unowned = λ (s : keep.is_sound new). unowned_reply caller project number (held number state) (is s) in
      replies_serves keep rules request old new Unknown reads tt
      (λ s. ∣ permitted_reply ruling k (IsWithdrawal state caller project number) Unknown permit (unowned s).0 ∣₁)
      (λ s. inr (λ list change. (unowned s).1 change.0.1.0 change.0.1.1 change.0.1.2, refl))
      (withdraw_asks terms state caller project number day k permit).0

  own_answer : (k : ℕ) (withdrawn : Bool) → ruling ≡ Permit k → IsOwned caller project (held number state) withdrawn
      → IsReply terms state request (Withdrawn number)
  own_answer k withdrawn permit owned =
      permitted_reply ruling k (IsWithdrawal state caller project number) (Withdrawn number) permit
      (sym (own_reply caller project number (held number state) owned.kept owned.holds owned.own))

  -- it is withdrawn already
  pub withdraw_again : (new : K) (k : ℕ) → ruling ≡ Permit k → OnlyReads keep old new false
      → (keep.is_sound new → Some true ≡ withdrawn_of caller project (held number state)) → Serves keep rules request old new (Withdrawn number)
  withdraw_again new k permit reads is =
      let own = λ (s : keep.is_sound new). owned caller project (held number state) true (is s) in
      replies_serves keep rules request old new (Withdrawn number) reads tt (λ s. ∣ own_answer k true permit (own s) ∣₁)
      (λ s. inl (((k, permit), ((own s).kept, (own s).holds, (own s).own)), still_withdrawn caller project number state (own s)))
      (withdraw_asks terms state caller project number day k permit).0

  withdrawing : {X : Type 0} (mid new : K) (k : ℕ) (result : Result X KeepError) → ruling ≡ Permit k → OnlyReads keep old mid false
      → (keep.is_sound mid → Some false ≡ withdrawn_of caller project (held number state))
      → Makes keep (with_withdrawn number (keep.deposits mid)) mid new result
      → IsMaking keep rules request old mid new (with_withdrawn number (keep.deposits mid)) result
  withdrawing mid new k result permit reads is makes = record {
    reads = reads;
    makes = makes;
    change = λ s.
        let own = owned caller project (held number state) false (is s) in
        (((k, permit), (own.kept, own.holds, own.own)), ap (with_withdrawn number) (reads.same s refl));
    asks = withdraw_asks terms state caller project number day k permit;
  }

  -- it is not withdrawn yet, and the store withdraws it
  pub withdraw_made : {X : Type 0} (mid new : K) (k : ℕ) (x : X) → ruling ≡ Permit k → OnlyReads keep old mid false
      → (keep.is_sound mid → Some false ≡ withdrawn_of caller project (held number state))
      → Makes keep (with_withdrawn number (keep.deposits mid)) mid new (Ok x) → Serves keep rules request old new (Withdrawn number)
  withdraw_made mid new k x permit reads is makes =
      made_serves keep rules request old mid new (with_withdrawn number (keep.deposits mid)) x (Withdrawn number)
      (withdrawing mid new k (Ok x) permit reads is makes) tt
      (λ s. own_answer k false permit (owned caller project (held number state) false (is (makes.sound s))))

  -- the store refuses to withdraw it
  pub withdraw_refused : {X : Type 0} (mid new : K) (k : ℕ) (e : KeepError) → ruling ≡ Permit k → OnlyReads keep old mid false
      → (keep.is_sound mid → Some false ≡ withdrawn_of caller project (held number state))
      → Makes {X = X} keep (with_withdrawn number (keep.deposits mid)) mid new (Err e) → e ≢ errors.Full → Serves keep rules request old new (answer_of e)
  withdraw_refused {X = X} mid new k e permit reads is makes named =
      unmade_serves keep rules request old {X = X} mid new (with_withdrawn number (keep.deposits mid)) e
      (withdrawing mid new k (Err e) permit reads is makes) (λ s. named)

-- ---- what the store requires before it withdraws

module _ {K : Type 0} (keep : Ghosts K) (caller : Caller) (project : List ℕ) (number : ℕ) (old mid : K) where
  -- the number is one of the list
  pub own_within : (withdrawn : Bool) → OnlyReads keep old mid false
      → (keep.is_sound mid → Some withdrawn ≡ withdrawn_of caller project (held number (keep.deposits old)))
      → keep.is_sound mid → (0 < number) × (number ≤ length (keep.deposits mid))
  own_within withdrawn reads is s =
      let own = owned caller project (held number (keep.deposits old)) withdrawn (is s) in
      subst (λ (l : List Deposit). (0 < number) × (number ≤ length l)) (sym (reads.same s refl))
      (held_within (keep.deposits old) number own.kept own.holds)

  -- the deposit is not withdrawn
  pub own_not_withdrawn : OnlyReads keep old mid false
      → (keep.is_sound mid → Some false ≡ withdrawn_of caller project (held number (keep.deposits old))) → keep.is_sound mid
      → (d : Deposit) → slice_get (keep.deposits mid) (number - 1) ≡ Some d → d.withdrawn ≡ false
  own_not_withdrawn reads is s d at =
      let own = owned caller project (held number (keep.deposits old)) false (is s) in
      let place = held_place (keep.deposits old) number own.kept own.holds in
      let same : Some own.kept ≡ Some d = sym place ∙ ap (λ (l : List Deposit). slice_get l (number - 1)) (sym (reads.same s refl)) ∙ at in
      ap (λ (k : Deposit). k.withdrawn) (sym (same_Some own.kept d same)) ∙ own.same
