-- There is a reply to each request in each state, and a run of each list: it is not so that there is none.
use Rattle.std.proofs.Common.{◌≡◌, ◌↔◌, ℕ, zero, suc, ◌+◌, ◌<◌, Bool, true, false, Option, Some, None, ◌⊎◌, List, [], ◌∷◌, ◌++◌, length, refl, sym, ap, subst, inl, inr, arith}
use Rattle.std.specs.Prelude.{ℤ, MatchBool, nat_lt}
use Rattle.std.specs.Str.{bytes_eq}
use Rattle.ags_rows.specs.declared.finding.Finding.{Finding}
use Rattle.ags_rows.specs.declared.TheConstants.{LIMIT}
use Rattle.ags_rows.specs.Writing.{written_file}
use Rattle.ags_links.specs.DataRows.{DataFile}
use Rattle.ags_links.specs.Indexing.{rows_in}
use Rattle.ags_links.specs.Walks.{IsMarked}
use Rattle.ags_check.specs.Findings.{Findings as AreFindings}
use Rattle.reg_policy.specs.declared.callers.Caller.{Caller}
use Rattle.reg_policy.specs.declared.subject.Decision.{Decision}
use Rattle.reg_policy.specs.declared.subject.Decision.TheVariants.{Permit, Deny}
use Rattle.reg_policy.specs.declared.subject.Verb.TheVariants as verbs
use Rattle.reg_store.specs.Deposit.{Deposit, sents}
use Rattle.reg_desk.specs.Asked.{Asked, deposit, check, listing, extract, withdraw}
use Rattle.reg_desk.specs.declared.answer.Listed.{Listed}
use Rattle.reg_desk.specs.declared.answer.Answer.{Answer}
use Rattle.reg_desk.specs.declared.answer.Answer.TheVariants.{Clean, Findings, Listing, Text, Denied, Unknown, TooLarge}
use Rattle.reg_desk.specs.Shown.{Look, IsDrawnAt}
use Rattle.reg_desk.specs.Extract.{extract_contents, IsExtractText}
use Rattle.reg_desk.specs.Machine.{Terms, decided, look_at, IsSeen, IsTextOf, OrDenied, OrFound, OrRefused, first_equal, receipt_of, listed_of, IsListing, held, IsDrawnFrom, withdrawal_of, Changes, IsNext, IsRun}
use Rattle.reg_desk.specs.Laws.{ThereIs, SomeReply, SomeRun, NoLeak, with_bytes}
use Rattle.reg_desk.proofs.SomeFindings.{either, some_findings}
use Rattle.reg_desk.proofs.Walks.{drawn_shown}
use Rattle.reg_desk.proofs.Runs.{same_replies}

-- ---- the text of an extract

marked : (b : Bool) (rest : List Bool) (Holds : ℕ → Type 0) → (b ≡ true) ↔ Holds 0 → ((n : ℕ) → IsMarked rest n ↔ Holds (suc n)) → (n : ℕ) → IsMarked (b ∷ rest) n ↔ Holds n
marked b rest Holds first more zero = first
marked b rest Holds first more (suc n) = more n

some_marks : (count : ℕ) (Holds : ℕ → Type 0) → ((n : ℕ) → Holds n → n < count) → ThereIs (λ marks. (length marks ≡ count) × ((n : ℕ) → IsMarked marks n ↔ Holds n))
some_marks zero Holds within none = none [] (refl, λ n. (λ is. absurd (let z : false ≡ true = is in cc), λ h. absurd (omega (arith, within n h))))
some_marks (suc count) Holds within none =
    some_marks count (λ n. Holds (suc n)) (λ n h. omega (arith, within (suc n) h)) (λ rest h. either (Holds 0) (λ x. elim x [
      | inl holds ↦ none (true ∷ rest) (ap suc h.0, marked true rest Holds (λ is. holds, λ is. refl) h.1)
      | inr never ↦ none (false ∷ rest) (ap suc h.0, marked false rest Holds (λ is. absurd (let z : false ≡ true = is in cc), λ is. absurd (never is)) h.1)
    ]))

some_text : (look : Look) (file : DataFile) (groups : List (List ℕ)) → ThereIs (IsExtractText look file groups)
some_text look file groups none =
    some_marks (length (rows_in file)) (IsDrawnAt look file groups) (λ n drawn. (drawn_shown look file groups n drawn n ([], refl)).1.0) (λ marks are.
    none (written_file (extract_contents marks file.contents)) (marks, are, refl))

-- ---- a reply

-- the one where a deposit is seen, the other where it is not
where_seen : {X : Type 0} (t : Bool) (Seen : Type 0) (One Other : X → Type 0) → (Seen → ThereIs One) → ThereIs Other → ThereIs (λ x. MatchBool t ((Seen × One x) ⊎ ((Seen → ⊥) × Other x)) (Other x))
where_seen true Seen One Other one other none = either Seen (λ x. elim x [
  | inl seen ↦ one seen (λ y h. none y (inl (seen, h)))
  | inr never ↦ other (λ y h. none y (inr (never, h)))
])
where_seen false Seen One Other one other none = other none

some_listing : (terms : Terms) (caller : Caller) (project : List ℕ) (day : ℤ) (n : ℕ) (state : List Deposit)
    → ThereIs (IsListing terms caller project day n state)
some_listing terms caller project day n [] none = none [] refl
some_listing terms caller project day n (kept ∷ state) none =
    let rest = some_listing terms caller project day (n + 1) state in
    where_seen (bytes_eq kept.sent.project project) (IsSeen terms caller day kept)
    (λ lines.
    (more : List Listed) × (lines ≡ listed_of n kept.sent ∷ more)
    × IsListing terms caller project day (n + 1) state more)
    (IsListing terms caller project day (n + 1) state)
    (λ seen absent. rest (λ more h. absent (listed_of n kept.sent ∷ more) (more, refl, h))) rest none

some_drawn : (terms : Terms) (caller : Caller) (project : List ℕ) (groups : List (List ℕ)) (day : ℤ)
    (of : Option Deposit) → ThereIs (IsDrawnFrom terms caller project groups day of)
some_drawn terms caller project groups day None none = none Unknown refl
some_drawn terms caller project groups day (Some kept) none =
    where_seen (bytes_eq kept.sent.project project) (IsSeen terms caller day kept)
    (λ reply. (text : List ℕ) × IsTextOf terms caller day groups kept.sent text × (reply ≡ Text text))
    (λ reply. reply ≡ Unknown)
    (λ seen absent.
    some_text (look_at terms caller day kept.sent) seen.1.0 groups
    (λ text h. absent (Text text) (text, (seen.1.0, seen.1.1, h), refl)))
    (λ absent. absent Unknown refl) none

or_denied : (d : Decision) (Stands : Answer → Type 0) → ThereIs Stands → ThereIs (OrDenied d Stands)
or_denied (Permit n) Stands some none = some none
or_denied (Deny n) Stands some none = none (Denied n) refl

or_refused : (terms : Terms) (bytes : List ℕ) (Stands : Answer → Type 0) → ThereIs Stands → ThereIs (OrRefused terms bytes Stands)
or_refused terms bytes Stands some = by (nat_lt LIMIT (length bytes))
  where
    or_found : (found : List Finding) → AreFindings terms.dictionary bytes found → ThereIs (λ r. (l : List Finding) × AreFindings terms.dictionary bytes l × OrFound l Stands r)
    or_found [] are none = some (λ r h. none r ([], are, h))
    or_found (f ∷ found) are none = none (Findings (f ∷ found)) (f ∷ found, are, refl)

    by : (t : Bool) → ThereIs (λ r. MatchBool t (r ≡ TooLarge) ((l : List Finding) × AreFindings terms.dictionary bytes l × OrFound l Stands r))
    by true none = none TooLarge refl
    by false none = some_findings terms.dictionary bytes (λ found are. or_found found are none)

pub some_reply : SomeReply
some_reply terms state (deposit caller project embargo bytes day) =
    let receipt = receipt_of terms embargo (length state) (first_equal 1 caller.firm project bytes (sents state)) in
    or_denied (decided terms caller project verbs.Deposit day) (OrRefused terms bytes (λ r. r ≡ receipt)) (or_refused terms bytes (λ r. r ≡ receipt) (λ none. none receipt refl))
some_reply terms state (check caller project bytes day) =
    or_denied (decided terms caller project verbs.Check day) (OrRefused terms bytes (λ r. r ≡ Clean)) (or_refused terms bytes (λ r. r ≡ Clean) (λ none. none Clean refl))
some_reply terms state (listing caller project day) =
    or_denied (decided terms caller project verbs.List day) (λ r. (lines : List Listed) × IsListing terms caller project day 1 state lines × (r ≡ Listing lines))
    (λ none. some_listing terms caller project day 1 state (λ lines h. none (Listing lines) (lines, h, refl)))
some_reply terms state (extract caller project number groups day) =
    or_denied (decided terms caller project verbs.Extract day) (IsDrawnFrom terms caller project groups day (held number state)) (some_drawn terms caller project groups day (held number state))
some_reply terms state (withdraw caller project number day) =
    let reply = withdrawal_of caller project number (held number state) in
    or_denied (decided terms caller project verbs.Withdraw day) (λ r. r ≡ reply) (λ none. none reply refl)

-- ---- a run

some_next : (terms : Terms) (state : List Deposit) (request : Asked) → ThereIs (IsNext terms state request)
some_next terms state request none = either ((list : List Deposit) × Changes terms state request list) (λ x. elim x [
  | inl change ↦ none change.0 (inl change.1)
  | inr never ↦ none state (inr (λ list change. never (list, change), refl))
])

pub some_run : SomeRun
some_run terms state [] none = none ([], state) (refl, refl)
some_run terms state (request ∷ requests) none =
    some_reply terms state request (λ reply is. some_next terms state request (λ next step. some_run terms next requests (λ run rest.
    none (reply ∷ run.0, run.1) (reply, run.0, next, refl, is, step, rest))))

pub no_leak : NoLeak
no_leak terms before after kept bytes file other clean other_clean requests tells replies final run =
    let same = λ (others : List Answer) (last : List Deposit)
    (rest : IsRun terms (before ++ with_bytes kept bytes ∷ after) requests others last).
    same_replies terms before after kept bytes file other clean other_clean requests tells replies others final last run rest in (
      same,
      λ none. some_run terms (before ++ with_bytes kept bytes ∷ after) requests (λ other_run rest.
          none other_run.1 (subst (λ (l : List Answer). IsRun terms (before ++ with_bytes kept bytes ∷ after) requests l other_run.1) (sym (same other_run.0 other_run.1 rest)) rest)),
    )
