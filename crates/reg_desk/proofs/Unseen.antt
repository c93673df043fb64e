-- A withdrawn deposit stays kept, and is neither listed nor drawn.
use Rattle.std.proofs.Common.{◌≡◌, ◌≢◌, ℕ, zero, suc, ◌+◌, Bool, true, false, Some, List, [], ◌∷◌, refl, sym, ap, subst, ◌∙◌, inl, inr, ◌⊎◌, arith}
use Rattle.std.specs.Prelude.{ℤ, slice_get, MatchBool, option_map}
use Rattle.std.specs.List.{AllByRecursion, AllZip}
use Rattle.std.specs.Str.{bytes_eq}
use Rattle.std.proofs.lemmas.Bool.{true≢false}
use Rattle.std.proofs.lemmas.Option.{same_Some}
use Rattle.reg_policy.specs.declared.callers.Caller.{Caller}
use Rattle.reg_policy.specs.declared.subject.Verb.TheVariants as verbs
use Rattle.reg_store.specs.Sent.{Sent}
use Rattle.reg_store.specs.Deposit.{Deposit}
use Rattle.reg_desk.specs.Asked.{Asked, extract, listing}
use Rattle.reg_desk.specs.declared.answer.Listed.{Listed}
use Rattle.reg_desk.specs.declared.answer.Answer.{Answer}
use Rattle.reg_desk.specs.declared.answer.Answer.TheVariants.{Listing, NoMemory, StoreFailed, Text}
use Rattle.reg_desk.specs.Machine.{Terms, decided, IsSeen, listed_of, IsListing, held, IsReply, IsNext}
use Rattle.reg_desk.specs.Laws.{DesksHideWithdrawn, Hides, IsModelAnswer, WithdrawnStaysHidden}
use Rattle.reg_desk.proofs.ModelAnswers.{all_answers}
use Rattle.reg_desk.proofs.Taken.{not_denied}
use Rattle.reg_desk.proofs.Runs.{given_by}
use Rattle.reg_desk.proofs.Lasting.{withdrawn_at, next_grows}

-- a withdrawn deposit is none that is not withdrawn
not_seen : (number : ℕ) (state : List Deposit) (d : Deposit) → withdrawn_at number state ≡ Some true
    → held number state ≡ Some d → d.withdrawn ≡ false → ⊥
not_seen number state d withdrawn at is =
    true≢false
    (sym (same_Some d.withdrawn true (sym (ap (option_map (λ (x : Deposit). x.withdrawn)) at) ∙ withdrawn)) ∙ is)

abbrev AreOthers : ℕ → List Listed → Type 0
AreOthers number lines = AllByRecursion (λ line. line.number ≢ number) lines

others_listed : (terms : Terms) (caller : Caller) (project : List ℕ) (day : ℤ) (number n : ℕ) (state : List Deposit)
    → ((i : ℕ) (d : Deposit) → slice_get state i ≡ Some d → d.withdrawn ≡ false → number ≢ n + i)
    → (lines : List Listed) → IsListing terms caller project day n state lines → AreOthers number lines
others_listed terms caller project day number n [] never lines h = subst (AreOthers number) (sym h) tt
others_listed terms caller project day number n (d ∷ state) never lines h =
    by (bytes_eq d.sent.project project)
    (others_listed terms caller project day number (n + 1) state
    (λ i e at is same. never (suc i) e at is (omega (arith, same)))) h
  where
    by : (t : Bool)
        → ((more : List Listed) → IsListing terms caller project day (n + 1) state more → AreOthers number more)
        → MatchBool t
        ((IsSeen terms caller day d × ((more : List Listed) × (lines ≡ listed_of n d.sent ∷ more)
        × IsListing terms caller project day (n + 1) state more))
        ⊎ ((IsSeen terms caller day d → ⊥) × IsListing terms caller project day (n + 1) state lines))
        (IsListing terms caller project day (n + 1) state lines) → AreOthers number lines
    by true rest (inl h) =
        subst (AreOthers number) (sym h.1.1) ((λ same. never 0 d refl h.0.0 (omega (arith, same))), rest h.1.0 h.1.2)
    by true rest (inr h) = rest lines h.1
    by false rest h = rest lines h

unlisted : (terms : Terms) (state : List Deposit) (number : ℕ) → withdrawn_at number state ≡ Some true
    → (caller : Caller) (project : List ℕ) (day : ℤ) (lines : List Listed)
    → IsReply terms state (listing caller project day) (Listing lines) → AreOthers number lines
unlisted terms state number withdrawn caller project day lines h =
    let lists = λ (r : Answer).
    (found : List Listed) × IsListing terms caller project day 1 state found × (r ≡ Listing found) in
    let found = (not_denied (decided terms caller project verbs.List day) lists (Listing lines) h (λ n e. cc)).2 in
    let same : lines ≡ found.0 = cc in
    others_listed terms caller project day number 1 state
    (λ i d at is e.
    let place : number ≡ suc i = omega (arith, e) in
    not_seen number state d withdrawn (ap (λ (m : ℕ). held m state) place ∙ at) is)
    lines (subst (IsListing terms caller project day 1 state) (sym same) found.1)

-- each reply hides it
hides : (terms : Terms) (state : List Deposit) (number : ℕ) → withdrawn_at number state ≡ Some true → (request : Asked)
    (reply : Answer) → IsReply terms state request reply → Hides number request reply
hides terms state number withdrawn (listing caller project day) (Listing lines) is =
    unlisted terms state number withdrawn caller project day lines is
hides terms state number withdrawn (extract caller project n groups day) (Text text) is = λ same.
    let given = given_by terms state caller project n groups day text is in
    let at = subst (λ (m : ℕ). held m state ≡ Some given.0) same given.1 in
    not_seen number state given.0 withdrawn at given.2.0.0
hides terms state number withdrawn request reply is = tt

-- ---- in later states

same_deposit : (d e : Deposit) → d.sent ≡ e.sent → d.withdrawn ≡ e.withdrawn → d ≡ e
same_deposit d e sent withdrawn =
    ap (λ (s : Sent). record { sent = s; withdrawn = d.withdrawn }) sent
    ∙ ap (λ (t : Bool). record { sent = e.sent; withdrawn = t }) withdrawn

-- a withdrawn deposit stays as it is
stays_withdrawn : (terms : Terms) (request : Asked) (state next : List Deposit) (number : ℕ) (kept : Deposit)
    → IsNext terms state request next → held number state ≡ Some kept → kept.withdrawn ≡ true
    → held number next ≡ Some kept
stays_withdrawn terms request state next zero kept step at is = absurd cc
stays_withdrawn terms request state next (suc i) kept step at is =
    let later = next_grows terms request state next step i kept at in
    later.1 ∙ ap (λ (d : Deposit). Some d) (same_deposit later.0 kept later.2 (later.3 is ∙ sym is))

is_withdrawn : (number : ℕ) (state : List Deposit) (kept : Deposit) → held number state ≡ Some kept
    → kept.withdrawn ≡ true → withdrawn_at number state ≡ Some true
is_withdrawn number state kept at is =
    ap (option_map (λ (d : Deposit). d.withdrawn)) at ∙ ap (λ (t : Bool). Some t) is

pub withdrawn_hidden : WithdrawnStaysHidden
withdrawn_hidden terms state number kept at is [] replies final run =
    (ap (held number) run.1 ∙ at, subst (AllZip (Hides number) []) (sym run.0) tt)
withdrawn_hidden terms state number kept at is (r ∷ requests) replies final run =
    let later = stays_withdrawn terms r state run.2 number kept run.5 at is in
    let rest = withdrawn_hidden terms run.2 number kept later is requests run.1 final run.6 in
    let here = hides terms state number (is_withdrawn number state kept at is) r run.0 run.4 in
    (rest.0, subst (AllZip (Hides number) (r ∷ requests)) (sym run.3) (here, rest.1))

none_hides : (number : ℕ) (r : Asked) (a : Answer) → (IsModelAnswer a → ⊥) → Hides number r a
none_hides number (listing caller project day) (Listing lines) none = absurd (none tt)
none_hides number (extract caller project n groups day) (Text text) none = absurd (none tt)
none_hides number r a none = tt

pub desks_hide : DesksHideWithdrawn
desks_hide terms state number kept at is requests answers last h =
    all_answers terms (λ s. held number s ≡ Some kept) (Hides number) (λ r. none_hides number r StoreFailed (λ x. x))
    (λ r. none_hides number r NoMemory (λ x. x)) (λ s next r a here reply step.
    let hidden = hides terms s number (is_withdrawn number s kept here is) r a reply in
    (hidden, stays_withdrawn terms r s next number kept step here is))
    state requests answers last at h
