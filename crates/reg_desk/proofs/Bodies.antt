-- Bodies that a caller sends: why they are refused, and what a check is answered.
use Rattle.std.proofs.Common.{◌≡◌, ◌≢◌, ℕ, ◌<◌, ◌≤◌, Bool, true, false, List, [], ◌∷◌, refl, sym, subst, inl, inr, ◌⊎◌}
use Rattle.std.specs.Prelude.{ℤ, nat_lt, length, MatchBool}
use Rattle.std.proofs.lemmas.Bool.{MatchBool-at_false, le-ltb, lt-ltb}
use Rattle.ags_rows.specs.declared.finding.Finding.{Finding}
use Rattle.ags_rows.specs.declared.TheConstants.{LIMIT}
use Rattle.ags_dict.specs.Entries.{Entries}
use Rattle.ags_check.specs.Findings.{Findings as AreFindings}
use Rattle.ags_check.specs.declared.checking.CheckError.{CheckError}
use Rattle.ags_check.specs.declared.checking.CheckError.TheVariants as errors
use Rattle.reg_policy.specs.declared.rule.Rule.{Rule}
use Rattle.reg_policy.specs.declared.callers.Caller.{Caller}
use Rattle.reg_policy.specs.declared.subject.Decision.{Decision}
use Rattle.reg_policy.specs.declared.subject.Decision.TheVariants.{Permit}
use Rattle.reg_policy.specs.declared.subject.Verb.TheVariants as verbs
use Rattle.reg_store.specs.declared.keep.Keep.{Ghosts}
use Rattle.reg_desk.specs.Asked.{Asked, check}
use Rattle.reg_desk.specs.declared.answer.Answer.{Answer}
use Rattle.reg_desk.specs.declared.answer.Answer.TheVariants.{Clean, Findings, Denied, TooLarge, NoMemory}
use Rattle.reg_desk.specs.Machine.{Terms, decided, OrDenied, OrFound, OrRefused, IsReply, IsNext}
use Rattle.reg_desk.specs.Serving.{NeedsMemory, IsCleanCheck, IsRefusal, terms_at, Serves}
use Rattle.reg_desk.proofs.Serves.{needs_of, replies_at_once, memory_at_once, permitted_reply, permit_stands}

pub where_true : (t : Bool) (A B : Type 0) → t ≡ true → A → MatchBool t A B
where_true t A B e a = subst (λ (b : Bool). MatchBool b A B) (sym e) a

pub where_false : (t : Bool) (A B : Type 0) → t ≡ false → B → MatchBool t A B
where_false t A B e b = subst (λ (x : Bool). MatchBool x A B) (sym e) b

-- ---- what a body is refused for

refused_large : (terms : Terms) (bytes : List ℕ) (Stands : Answer → Type 0) → LIMIT < length bytes → OrRefused terms bytes Stands TooLarge
refused_large terms bytes Stands lt = where_true (nat_lt LIMIT (length bytes)) _ _ (lt-ltb LIMIT (length bytes) lt) refl

found_some : (found : List Finding) (Stands : Answer → Type 0) → found ≢ [] → OrFound found Stands (Findings found)
found_some [] Stands some = absurd (some refl)
found_some (f ∷ found) Stands some = refl

refused_found : (terms : Terms) (bytes : List ℕ) (Stands : Answer → Type 0) (found : List Finding) → length bytes ≤ LIMIT → AreFindings terms.dictionary bytes found → found ≢ [] → OrRefused terms bytes Stands (Findings found)
refused_found terms bytes Stands found le are some = where_false (nat_lt LIMIT (length bytes)) _ _ (le-ltb LIMIT (length bytes) le) (found, are, found_some found Stands some)

-- what holds where it is not refused
pub refused_none : (terms : Terms) (bytes : List ℕ) (Stands : Answer → Type 0) (answer : Answer) → length bytes ≤ LIMIT → AreFindings terms.dictionary bytes [] → Stands answer → OrRefused terms bytes Stands answer
refused_none terms bytes Stands answer le are h = where_false (nat_lt LIMIT (length bytes)) _ _ (le-ltb LIMIT (length bytes) le) ([], are, h)

found_needs : (found : List Finding) (Stands : Answer → Type 0) → NeedsMemory Stands → NeedsMemory (OrFound found Stands)
found_needs [] Stands needs = needs
found_needs (f ∷ found) Stands needs = (λ n e. cc, λ e. cc)

-- where the body is not too large, its findings decide
small_found : (d : Decision) (k : ℕ) (terms : Terms) (bytes : List ℕ) (Stands : Answer → Type 0) (reply : Answer) → d ≡ Permit k → length bytes ≤ LIMIT
    → OrDenied d (OrRefused terms bytes Stands) reply → (found : List Finding) × OrFound found Stands reply
small_found d k terms bytes Stands reply permit le is =
    let h = permit_stands d k (OrRefused terms bytes Stands) reply permit is in
    let found = MatchBool-at_false _ _ (le-ltb LIMIT (length bytes) le) h in
    (found.0, found.2)

-- a body that is not too large needs memory
pub small_needs : (d : Decision) (k : ℕ) (terms : Terms) (bytes : List ℕ) (Stands : Answer → Type 0) → d ≡ Permit k → length bytes ≤ LIMIT → NeedsMemory Stands
    → NeedsMemory (OrDenied d (OrRefused terms bytes Stands))
small_needs d k terms bytes Stands permit le needs = (
  λ n is. let found = small_found d k terms bytes Stands (Denied n) permit le is in (found_needs found.0 Stands needs).0 n found.1,
  λ is. let found = small_found d k terms bytes Stands TooLarge permit le is in (found_needs found.0 Stands needs).1 found.1,
)

-- a request with a body that is refused
pub refusal_serves : {K : Type 0} (keep : Ghosts K) (rules : List Rule) (request : Asked) (old : K) (answer : Answer) (d : Decision) (k : ℕ) (bytes : List ℕ) (Stands : Answer → Type 0)
    → keep.has_failed old ≡ false → d ≡ Permit k → IsRefusal (keep.dictionary old) bytes answer → NeedsMemory Stands
    → ((r : Answer) → OrDenied d (OrRefused (terms_at keep rules old) bytes Stands) r → IsReply (terms_at keep rules old) (keep.deposits old) request r)
    → ((r : Answer) → IsReply (terms_at keep rules old) (keep.deposits old) request r → OrDenied d (OrRefused (terms_at keep rules old) bytes Stands) r)
    → ((r : Answer) → IsRefusal (keep.dictionary old) bytes r → IsReply (terms_at keep rules old) (keep.deposits old) request r → IsNext (terms_at keep rules old) (keep.deposits old) request (keep.deposits old))
    → Serves keep rules request old old answer
refusal_serves keep rules request old TooLarge d k bytes Stands works permit refusal needs to from next =
    let terms = terms_at keep rules old in
    let is = to TooLarge (permitted_reply d k (OrRefused terms bytes Stands) TooLarge permit (refused_large terms bytes Stands refusal)) in
    replies_at_once keep rules request old TooLarge works tt is (next TooLarge refusal is)
refusal_serves keep rules request old (Findings found) d k bytes Stands works permit refusal needs to from next =
    let terms = terms_at keep rules old in
    let is = to (Findings found) (permitted_reply d k (OrRefused terms bytes Stands) (Findings found) permit (refused_found terms bytes Stands found refusal.0 refusal.1 refusal.2)) in
    replies_at_once keep rules request old (Findings found) works tt is (next (Findings found) refusal is)
refusal_serves keep rules request old NoMemory d k bytes Stands works permit refusal needs to from next =
    let terms = terms_at keep rules old in
    memory_at_once keep rules request old works
    (needs_of (OrDenied d (OrRefused terms bytes Stands)) (IsReply terms (keep.deposits old) request) from (small_needs d k terms bytes Stands permit refusal needs))
refusal_serves keep rules request old answer d k bytes Stands works permit refusal needs to from next = absurd refusal

-- what a check ends with is a refusal of the body
pub refusal_is : (given : Entries) (bytes : List ℕ) (error : CheckError) (answer : Answer) → length bytes ≤ LIMIT → ((found : List Finding) → error ≡ errors.Findings found → AreFindings given bytes found × (found ≢ []))
    → ((found : List Finding) → error ≡ errors.Findings found → answer ≡ Findings found) → (error ≡ errors.NoMemory → answer ≡ NoMemory) → IsRefusal given bytes answer
refusal_is given bytes (errors.Findings found) answer le has told memory = subst (IsRefusal given bytes) (sym (told found refl)) (le, (has found refl).0, (has found refl).1)
refusal_is given bytes errors.NoMemory answer le has told memory = subst (IsRefusal given bytes) (sym (memory refl)) le

-- what a check ends with is a refusal of the body, or Clean
pub report_is : (given : Entries) (bytes : List ℕ) (found : List Finding) (answer : Answer) → length bytes ≤ LIMIT → AreFindings given bytes found
    → (found ≡ [] → answer ≡ Clean) → (found ≢ [] → answer ≡ Findings found) → IsRefusal given bytes answer ⊎ IsCleanCheck given bytes answer
report_is given bytes [] answer le are none some = inr (none refl, le, are)
report_is given bytes (f ∷ found) answer le are none some = inl (subst (IsRefusal given bytes) (sym (some (λ e. cc))) (le, are, λ e. cc))

-- ---- a check

abbrev IsCleanAnswer : Answer → Type 0
IsCleanAnswer r = r ≡ Clean

module _ {K : Type 0} (keep : Ghosts K) (rules : List Rule) (caller : Caller) (project bytes : List ℕ) (day : ℤ) (old : K) where
  abbrev request : Asked
  request = check caller project bytes day

  abbrev ruling : Decision
  ruling = decided (terms_at keep rules old) caller project verbs.Check day

  -- the body is refused, or it has no finding
  pub check_answered : (given : Entries) (answer : Answer) (k : ℕ) → keep.has_failed old ≡ false → ruling ≡ Permit k → given ≡ keep.dictionary old
      → IsRefusal given bytes answer ⊎ ((answer ≡ Clean) × (length bytes ≤ LIMIT) × AreFindings given bytes []) → Serves keep rules request old old answer
  check_answered given answer k works permit same (inl refusal) =
      refusal_serves keep rules request old answer ruling k bytes IsCleanAnswer works permit (subst (λ (e : Entries). IsRefusal e bytes answer) same refusal)
      (λ n e. cc, λ e. cc) (λ r h. h) (λ r h. h) (λ r h is. inr (λ list change. change, refl))
  check_answered given answer k works permit same (inr clean) =
      let terms = terms_at keep rules old in
      let are = subst (λ (e : Entries). AreFindings e bytes []) same clean.2 in
      let is = refused_none terms bytes IsCleanAnswer Clean clean.1 are refl in
      subst (Serves keep rules request old old) (sym clean.0)
      (replies_at_once keep rules request old Clean works tt
      (permitted_reply ruling k (OrRefused terms bytes IsCleanAnswer) Clean permit is) (inr (λ list change. change, refl)))
