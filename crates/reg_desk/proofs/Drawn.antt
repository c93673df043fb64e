-- The texts that a desk answers: clean files, and the same bytes where an extract is drawn again.
use Rattle.std.proofs.Common.{◌≡◌, ℕ, ◌+◌, Bool, true, false, List, [], Option, Some, None, cond}
use Rattle.std.specs.Prelude.{ℤ, nat_lt, length}
use Rattle.std.proofs.Math.Logic.{∥∥₁_map, ∥∥₁_elim}
use Rattle.std.proofs.Props.{props}
use Rattle.ags_check.specs.Findings.{Findings as AreFindings}
use Rattle.reg_policy.specs.declared.rule.Rule.{Rule}
use Rattle.reg_policy.specs.declared.callers.Caller.{Caller}
use Rattle.reg_policy.specs.declared.subject.Verb.TheVariants as verbs
use Rattle.reg_store.specs.Deposit.{Deposit, sents}
use Rattle.reg_store.specs.declared.keep.Keep.{Ghosts}
use Rattle.reg_desk.specs.Asked.{Asked, deposit, check, listing, extract, withdraw}
use Rattle.reg_desk.specs.declared.answer.Listed.{Listed}
use Rattle.reg_desk.specs.declared.answer.Answer.{Answer}
use Rattle.reg_desk.specs.declared.answer.Answer.TheVariants.{Receipt, Clean, Listing, Text, Unknown, Full, Withdrawn}
use Rattle.reg_desk.specs.Machine.{Terms, decided, first_equal, receipt_of, IsListing, held, is_own, withdrawal_of, IsReply}
use Rattle.reg_desk.specs.Serving.{IsAnswer, terms_at, Serves}
use Rattle.reg_desk.specs.Desks.{IsCleanText, IsSameText, IsSameAnswer}
use Rattle.reg_desk.proofs.Taken.{not_denied, not_refused}
use Rattle.reg_desk.proofs.Runs.{texts_clean, extract_again}

text_reply : (terms : Terms) (state : List Deposit) (request : Asked) (text : List ℕ)
    → IsAnswer terms state request (Text text) → IsReply terms state request (Text text)
unfolding IsAnswer
text_reply terms state request text is = is

-- ---- no other request is answered by a text

neither : (t : Bool) (a b : Answer) (text : List ℕ) → (Text text ≡ a → ⊥) → (Text text ≡ b → ⊥) → Text text ≡ cond t a b
    → ⊥
neither true a b text not_a not_b h = not_a h
neither false a b text not_a not_b h = not_b h

receipt_no_text : (terms : Terms) (embargo : ℤ) (count : ℕ) (first : Option (ℕ × ℤ)) (text : List ℕ)
    → Text text ≡ receipt_of terms embargo count first → ⊥
receipt_no_text terms embargo count (Some was) text h = cc
receipt_no_text terms embargo count None text h =
    neither (nat_lt count terms.most) (Receipt (count + 1) embargo) Full text (λ e. cc) (λ e. cc) h

withdrawal_no_text : (caller : Caller) (project : List ℕ) (number : ℕ) (of : Option Deposit) (text : List ℕ)
    → Text text ≡ withdrawal_of caller project number of → ⊥
withdrawal_no_text caller project number None text h = cc
withdrawal_no_text caller project number (Some kept) text h =
    neither (is_own caller project kept) (Withdrawn number) Unknown text (λ e. cc) (λ e. cc) h

-- ---- a text is clean

text_clean : (terms : Terms) (state : List Deposit) (request : Asked) (text : List ℕ)
    → IsReply terms state request (Text text) → AreFindings terms.dictionary text []
text_clean terms state (deposit caller project embargo bytes day) text h =
    let first = first_equal 1 caller.firm project bytes (sents state) in
    let Stands = λ (r : Answer). r ≡ receipt_of terms embargo (length state) first in
    let fine =
    not_refused (decided terms caller project verbs.Deposit day) terms bytes Stands (Text text) h (λ n e. cc) (λ e. cc)
    (λ l e. cc) in
    absurd (receipt_no_text terms embargo (length state) first text fine.3)
text_clean terms state (check caller project bytes day) text h =
    let fine =
    not_refused (decided terms caller project verbs.Check day) terms bytes (λ r. r ≡ Clean) (Text text) h (λ n e. cc)
    (λ e. cc) (λ l e. cc) in
    absurd (let e = fine.3 in cc)
text_clean terms state (listing caller project day) text h =
    let lists = λ (r : Answer).
    (lines : List Listed) × IsListing terms caller project day 1 state lines × (r ≡ Listing lines) in
    let found = (not_denied (decided terms caller project verbs.List day) lists (Text text) h (λ n e. cc)).2 in
    absurd (let e = found.2 in cc)
text_clean terms state (extract caller project number groups day) text h = texts_clean terms state caller project number groups day text h
text_clean terms state (withdraw caller project number day) text h =
    let reply = λ (r : Answer). r ≡ withdrawal_of caller project number (held number state) in
    let found = (not_denied (decided terms caller project verbs.Withdraw day) reply (Text text) h (λ n e. cc)).2 in
    absurd (withdrawal_no_text caller project number (held number state) text found)

pub clean_text : {K : Type 0} (keep : Ghosts K) (rules : List Rule) (request : Asked) (old new : K) (answer : Answer) → Serves keep rules request old new answer → keep.is_sound new → IsCleanText keep old answer
clean_text keep rules request old new (Text text) serves s =
    let terms = terms_at keep rules old in
    ∥∥₁_map (serves.is_answer s) (λ (is : IsAnswer terms (keep.deposits old) request (Text text)).
    text_clean terms (keep.deposits old) request text (text_reply terms (keep.deposits old) request text is))
clean_text keep rules request old new answer serves s = tt

-- ---- an extract is drawn again

drawn_again : {K : Type 0} (keep : Ghosts K) (rules : List Rule) (request : Asked) (old new : K) (text : List ℕ) → Serves keep rules request old new (Text text) → keep.is_sound new → IsSameText keep rules old request text
drawn_again keep rules (extract caller project number [] day) old new text serves s = λ kept holds was whole.
    let terms = terms_at keep rules old in
    let request = extract caller project number [] day in
    ∥∥₁_elim (serves.is_answer s) (Prim.hlevel props) (λ (is : IsAnswer terms (keep.deposits old) request (Text text)).
    extract_again terms (keep.deposits old) kept caller project number day text holds was whole (text_reply terms (keep.deposits old) request text is))
drawn_again keep rules request old new text serves s = tt

pub same_answer : {K : Type 0} (keep : Ghosts K) (rules : List Rule) (request : Asked) (old new : K) (answer : Answer) → Serves keep rules request old new answer → keep.is_sound new → IsSameAnswer keep rules old request answer
same_answer keep rules request old new (Text text) serves s = drawn_again keep rules request old new text serves s
same_answer keep rules request old new answer serves s = tt
