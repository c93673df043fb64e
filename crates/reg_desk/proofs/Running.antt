-- A list of requests, from the answer to each.
use Rattle.std.proofs.Common.{◌≡◌, ℕ, Bool, true, false, cond, Option, Some, None, List, [], ◌∷◌, ◌++◌, refl, sym, ap, subst, ◌∙◌, inl, inr}
use Rattle.std.specs.List.{find, zip}
use Rattle.std.proofs.lemmas.Bool.{true≢false, cases_Bool}
use Rattle.std.proofs.Props.{props}
use Rattle.std.proofs.Math.Logic.{∥∥₁_map, ∥∥₁_elim}
use Rattle.std.specs.Prelude.{option_map}
use Rattle.reg_policy.specs.declared.rule.Rule.{Rule}
use Rattle.reg_store.specs.Deposit.{Deposit}
use Rattle.reg_store.specs.declared.keep.Keep.{Ghosts}
use Rattle.reg_desk.specs.Asked.{Asked}
use Rattle.reg_desk.specs.declared.answer.Answer.{Answer}
use Rattle.reg_desk.specs.declared.desk.Desk.{Desk}
use Rattle.reg_desk.specs.Desks.{AnsweredBy, AreAnsweredBy, StepsAreARun, EndsARun}
use Rattle.reg_desk.specs.Machine.{Terms, Changes}
use Rattle.reg_desk.specs.Serving.{is_failed, IsAnswer, terms_at, Serves}
use Rattle.reg_desk.specs.Running.{AreFailed, AreAnswers, failing, Runs, RunsIfSound}
use Rattle.reg_desk.proofs.Bodies.{where_true, where_false}
use Rattle.reg_desk.proofs.Lasting.{receipts_last}

-- ---- the store of a desk that answers a list of requests

-- once the desk has failed, each answer is StoreFailed, and the store stays the same
stays_failed : {K : Type 0} (keep : Ghosts K) (old new : Desk K keep) (requests : List Asked) (answers : List Answer) → AreAnsweredBy keep old requests answers new → old.failed ≡ true
    → AreFailed requests answers × (new.keep ≡ old.keep)
stays_failed {K = K} keep old new [] [] by failed = (tt, ap (λ (d : Desk K keep). d.keep) by)
stays_failed keep old new (r ∷ requests) (a ∷ answers) by failed =
    let stuck = by.1.stuck failed in
    let rest = stays_failed keep by.0 new requests answers by.2 (by.1.failed ∙ ap is_failed stuck.0) in
    ((stuck.0, rest.0), rest.1 ∙ stuck.1)
stays_failed keep old new requests answers by failed = absurd by

-- a store that is sound afterwards was sound before
was_sound : {K : Type 0} (keep : Ghosts K) (old new : Desk K keep) (requests : List Asked) (answers : List Answer) → AreAnsweredBy keep old requests answers new → keep.is_sound new.keep → keep.is_sound old.keep
was_sound {K = K} keep old new [] [] by sound = subst (λ (d : Desk K keep). keep.is_sound d.keep) by sound
was_sound keep old new (r ∷ requests) (a ∷ answers) by sound =
    let mid = was_sound keep by.0 new requests answers by.2 sound in
    elim (cases_Bool old.failed) [ inl failed ↦ subst keep.is_sound (by.1.stuck failed).1 mid | inr works ↦ (by.1.served works).sound mid ]
was_sound keep old new requests answers by sound = absurd by

-- ---- the run

-- a store that has not failed leaves its own dictionary and list and no other
abbrev pub Settled : {K : Type 0} → Ghosts K → Type 0
Settled {K} keep = (k : K) (bytes : List ℕ) (list : List Deposit) → keep.is_sound k → keep.has_failed k ≡ false → keep.may_leave k bytes list
    → (bytes ≡ keep.text k) × (list ≡ keep.deposits k)

-- a store that has not failed leaves a register of some list
abbrev pub Unbroken : {K : Type 0} → Ghosts K → Type 0
Unbroken {K} keep = (k : K) → keep.is_sound k → keep.has_failed k ≡ false → keep.may_break k → ⊥

-- the first answer is StoreFailed
runs_fail : {K : Type 0} (keep : Ghosts K) (rules : List Rule) (old new : K) (r : Asked) (a : Answer) (requests : List Asked) (answers : List Answer) → Settled keep → Unbroken keep → keep.has_failed old ≡ false
    → keep.is_sound new → is_failed a ≡ true → Serves keep rules r old new a → IsAnswer (terms_at keep rules old) (keep.deposits old) r a → AreFailed requests answers
    → Runs keep rules old new (r ∷ requests) (a ∷ answers)
runs_fail keep rules old new r a requests answers settled unbroken works sound fails serves is failed =
    let this_fails : failing (r ∷ requests) (a ∷ answers) ≡ Some r = first_fails (is_failed a) fails (find (λ p. is_failed p.1) (zip requests answers)) in
    record {
      last = keep.deposits old;
      are_answers = (is, where_true (is_failed a) _ _ fails (refl, failed));
      final = λ e. absurd (some_none (sym this_fails ∙ e));
      left = λ bytes list may.
          elim (serves.crash sound bytes list may) [
            | inl was ↦ let own = settled old bytes list (serves.sound sound) works was in (own.0, inl own.1)
            | inr change ↦ (change.0, inr (r, this_fails, change.1))
          ];
      whole = λ may. unbroken old (serves.sound sound) works (serves.whole sound may);
    }
  where
    first_fails : (t : Bool) → t ≡ true → (rest : Option (Asked × Answer)) → option_map (λ (p : Asked × Answer). p.0) (cond t (Some (r, a)) rest) ≡ Some r
    first_fails true e rest = refl
    first_fails false e rest = absurd (true≢false (sym e))

    some_none : Some r ≡ None → ⊥
    some_none e = cc

-- the first answer is another, and the others are given from there on
runs_on : {K : Type 0} (keep : Ghosts K) (rules : List Rule) (old mid new : K) (r : Asked) (a : Answer) (requests : List Asked) (answers : List Answer) → keep.is_sound mid → is_failed a ≡ false
    → Serves keep rules r old mid a → IsAnswer (terms_at keep rules old) (keep.deposits old) r a → Runs keep rules mid new requests answers → Runs keep rules old new (r ∷ requests) (a ∷ answers)
runs_on keep rules old mid new r a requests answers sound lives serves is rest =
    let terms : terms_at keep rules mid ≡ terms_at keep rules old = cc in
    let later : failing (r ∷ requests) (a ∷ answers) ≡ failing requests answers = skip (is_failed a) lives (find (λ p. is_failed p.1) (zip requests answers)) in
    record {
      last = rest.last;
      are_answers = (
        is,
        where_false (is_failed a) _ _ lives (keep.deposits mid, serves.after sound, subst (λ (g : Terms). AreAnswers g (keep.deposits mid) requests answers rest.last) terms rest.are_answers),
      );
      final = λ e. rest.final (sym later ∙ e);
      left = λ bytes list may.
          let then = rest.left bytes list may in (
            then.0 ∙ serves.same_text sound lives,
            elim then.1 [
              | inl same ↦ inl same
              | inr h ↦ inr (h.0, later ∙ h.1, subst (λ (g : Terms). Changes g rest.last h.0 list) terms h.2)
            ],
          );
      whole = rest.whole;
    }
  where
    skip : (t : Bool) → t ≡ false → (more : Option (Asked × Answer)) → option_map (λ (p : Asked × Answer). p.0) (cond t (Some (r, a)) more) ≡ option_map (λ (p : Asked × Answer). p.0) more
    skip true e more = absurd (true≢false e)
    skip false e more = refl

-- what a desk that had not failed answers, over a store that is sound at the end
pub desk_runs : {K : Type 0} (keep : Ghosts K) (old new : Desk K keep) (requests : List Asked) (answers : List Answer) → Settled keep → Unbroken keep → AreAnsweredBy keep old requests answers new → RunsIfSound keep old requests answers new
desk_runs {K = K} keep old new [] [] settled unbroken by sound works =
    let was = was_sound keep old new [] [] by sound in
    let fine : keep.has_failed old.keep ≡ false = sym (old.exact was) ∙ works in
    subst (λ (d : Desk K keep). ∥ Runs keep old.policy old.keep d.keep [] [] ∥₁) (sym by)
    ∣ record { last = keep.deposits old.keep; are_answers = refl; final = λ e. refl; left = λ bytes list may. (let own = settled old.keep bytes list was fine may in (own.0, inl own.1)); whole = unbroken old.keep was fine } ∣₁
desk_runs {K = K} keep old new (r ∷ requests) (a ∷ answers) settled unbroken by sound works =
    let mid = by.0 in
    let then_sound = was_sound keep mid new requests answers by.2 sound in
    let serves = by.1.served works in
    ∥∥₁_elim (serves.is_answer then_sound) (Prim.hlevel props) (λ (is : IsAnswer (terms_at keep old.policy old.keep) (keep.deposits old.keep) r a).
    elim (cases_Bool (is_failed a)) [
      | inl fails ↦
          let stuck = stays_failed keep mid new requests answers by.2 (by.1.failed ∙ fails) in
          ∣ runs_fail keep old.policy old.keep new.keep r a requests answers settled unbroken (sym (old.exact (serves.sound then_sound)) ∙ works) sound fails
          (subst (λ (k : K). Serves keep old.policy r old.keep k a) (sym stuck.1) serves) is stuck.0 ∣₁
      | inr lives ↦
          ∥∥₁_map (desk_runs keep mid new requests answers settled unbroken by.2 sound (by.1.failed ∙ lives)) (λ (rest : Runs keep mid.policy mid.keep new.keep requests answers).
          runs_on keep old.policy old.keep mid.keep new.keep r a requests answers then_sound lives serves is (subst (λ (rules : List Rule). Runs keep rules mid.keep new.keep requests answers) by.1.policy rest))
    ])
desk_runs keep old new requests answers settled unbroken by sound works = absurd by

-- ---- the law

pub steps_run : {K : Type 0} (keep : Ghosts K) → Settled keep → Unbroken keep → StepsAreARun keep
steps_run keep settled unbroken old new requests answers by =
    let runs = desk_runs keep old new requests answers settled unbroken by in (
      runs,
      λ sound works bytes list may.
          ∥∥₁_map (runs sound works) (λ (r : Runs keep old.policy old.keep new.keep requests answers).
          receipts_last keep old.policy old.keep new.keep requests answers r bytes list may),
    )

-- the next request goes to the desk that these left
pub answered_more : {K : Type 0} (keep : Ghosts K) (old mid new : Desk K keep) (requests : List Asked) (answers : List Answer) (r : Asked) (a : Answer)
    → AreAnsweredBy keep old requests answers mid → AnsweredBy keep mid r a new → AreAnsweredBy keep old (requests ++ r ∷ []) (answers ++ a ∷ []) new
answered_more {K = K} keep old mid new [] [] r a h by = (new, subst (λ (d : Desk K keep). AnsweredBy keep d r a new) h by, refl)
answered_more keep old mid new (q ∷ requests) (b ∷ answers) r a h by = (h.0, h.1, answered_more keep h.0 mid new requests answers r a h.2 by)
answered_more keep old mid new requests answers r a h by = absurd h

pub ends_run : {K : Type 0} (keep : Ghosts K) → Settled keep → Unbroken keep → (old new : Desk K keep) (request : Asked) (answer : Answer)
    → AnsweredBy keep old request answer new → EndsARun keep old request answer new
ends_run keep settled unbroken old new request answer by first requests answers before =
    steps_run keep settled unbroken first new (requests ++ request ∷ []) (answers ++ answer ∷ [])
    (answered_more keep first old new requests answers request answer before by)
