-- A listing, number by number.
use Rattle.std.proofs.Common.{◌≡◌, ℕ, zero, suc, ◌+◌, ◌<◌, ◌≤◌, Bool, true, false, cond, Option, Some, None, List, [], ◌∷◌, ◌++◌, drop, get_or, refl, sym, ap, subst, ◌∙◌, inl, inr, ◌⊎◌, arith, append_assoc, append-nil}
use Rattle.std.specs.Prelude.{ℤ, slice_get, length, MatchBool}
use Rattle.std.specs.Str.{bytes_eq}
use Rattle.std.proofs.Math.Logic.{∥∥₁_map, ∥∥₁_elim}
use Rattle.std.proofs.Props.{props}
use Rattle.std.proofs.lemmas.List.{drop_all, drop_more}
use Rattle.reg_policy.specs.declared.rule.Rule.{Rule}
use Rattle.reg_policy.specs.declared.callers.Caller.{Caller}
use Rattle.reg_policy.specs.declared.subject.Decision.{Decision}
use Rattle.reg_policy.specs.declared.subject.Decision.TheVariants.{Permit}
use Rattle.reg_policy.specs.declared.subject.Verb.TheVariants as verbs
use Rattle.reg_store.specs.Sent.{numbers_from}
use Rattle.reg_store.specs.Deposit.{Deposit, sents}
use Rattle.reg_store.specs.Keep.{IsHeadOf}
use Rattle.reg_store.specs.declared.keep.Keep.{Ghosts}
use Rattle.reg_store.specs.declared.keep.KeptHead.{KeptHead}
use Rattle.reg_desk.specs.Asked.{Asked, listing}
use Rattle.reg_desk.specs.declared.answer.Listed.{Listed}
use Rattle.reg_desk.specs.declared.answer.Answer.{Answer}
use Rattle.reg_desk.specs.declared.answer.Answer.TheVariants.{Listing}
use Rattle.reg_desk.specs.Machine.{Terms, decided, IsSeen, listed_of, IsListing, held, IsReply}
use Rattle.reg_desk.specs.Serving.{AsksStore, IsSeenHead, terms_at, OnlyReads, Serves}
use Rattle.reg_desk.proofs.Drawing.{held_at, same_kept}
use Rattle.reg_desk.proofs.Serves.{asks_of, replies_serves, permitted_reply, permit_stands}

-- ---- lines for numbers

-- the line of a deposit in a listing, by its number and its head
abbrev pub line_of : ℕ → KeptHead → Listed
line_of n head = record { number = n; firm = head.firm; embargo = head.embargo }

abbrev with_line : ℕ → Option KeptHead → List Listed → List Listed
with_line n None more = more
with_line n (Some head) more = line_of n head ∷ more

-- the lines of the deposits that have these numbers
abbrev pub AreLines : Terms → Caller → List ℕ → ℤ → (ℕ → Option Deposit) → List ℕ → List Listed → Type 0
AreLines terms caller project day at [] lines = lines ≡ []
AreLines terms caller project day at (n ∷ numbers) lines =
    (kept : Deposit) × (head : Option KeptHead) × (more : List Listed) ×
    (at n ≡ Some kept) × IsSeenHead terms caller project day kept head ×
    (lines ≡ with_line n head more) × AreLines terms caller project day at numbers more

-- the lines so far, where these numbers are left
abbrev pub SoFar : Terms → Caller → List ℕ → ℤ → (ℕ → Option Deposit) → List ℕ → List ℕ → List Listed → Type 0
SoFar terms caller project day at all numbers lines =
    (rest : List Listed) → AreLines terms caller project day at numbers rest → AreLines terms caller project day at all (lines ++ rest)

abbrev pub put_line : List Listed → ℕ → Option KeptHead → List Listed
put_line lines n None = lines
put_line lines n (Some head) = lines ++ line_of n head ∷ []

lines_more : (terms : Terms) (caller : Caller) (project : List ℕ) (day : ℤ) (at : ℕ → Option Deposit) (all : List ℕ) (n : ℕ)
    (numbers : List ℕ) (lines : List Listed) (kept : Deposit) (head : Option KeptHead)
    → SoFar terms caller project day at all (n ∷ numbers) lines → at n ≡ Some kept → IsSeenHead terms caller project day kept head
    → SoFar terms caller project day at all numbers (put_line lines n head)
lines_more terms caller project day at all n numbers lines kept None so_far holds seen = λ rest h. so_far rest (kept, None, rest, holds, seen, refl, h)
lines_more terms caller project day at all n numbers lines kept (Some head) so_far holds seen = λ rest h.
    let line = line_of n head in
    subst (AreLines terms caller project day at all) (sym (append_assoc lines (line ∷ []) rest)) (so_far (line ∷ rest) (kept, Some head, rest, holds, seen, refl, h))

pub lines_end : (terms : Terms) (caller : Caller) (project : List ℕ) (day : ℤ) (at : ℕ → Option Deposit) (all : List ℕ)
    (lines : List Listed) → SoFar terms caller project day at all [] lines → AreLines terms caller project day at all lines
lines_end terms caller project day at all lines so_far = subst (AreLines terms caller project day at all) (append-nil lines) (so_far [] refl)

-- ---- the project's numbers

-- `at` gives each deposit of a list that is numbered from n
abbrev Stands : (ℕ → Option Deposit) → ℕ → List Deposit → Type 0
Stands at n state = (i k : ℕ) (d : Deposit) → slice_get state i ≡ Some d → k ≡ n + i → at k ≡ Some d

-- a deposit of number n, and the list of lines from there on
module _ (terms : Terms) (caller : Caller) (project : List ℕ) (day : ℤ) (n : ℕ) (d : Deposit) (state : List Deposit) (lines : List Listed) where
  abbrev More : List Listed → Type 0
  More = IsListing terms caller project day (n + 1) state

  abbrev Here : Type 0
  Here = (IsSeen terms caller day d × ((l : List Listed) × (lines ≡ listed_of n d.sent ∷ l) × More l)) ⊎ ((IsSeen terms caller day d → ⊥) × More lines)

  listed_then : (more : List Listed) (head : Option KeptHead) → IsSeenHead terms caller project day d head → bytes_eq d.sent.project project ≡ true
      → lines ≡ with_line n head more → More more → Here
  listed_then more head seen own is rest =
      elim (subst (λ (t : Bool). MatchBool t ((IsSeen terms caller day d × ((h : KeptHead) × (head ≡ Some h) × IsHeadOf d h)) ⊎ ((IsSeen terms caller day d → ⊥) × (head ≡ None))) (head ≡ None)) own seen) [
        | inl h ↦
            let line : line_of n h.1.0 ≡ listed_of n d.sent = (let of_head = h.1.2 in cc) in
            inl (h.0, (more, is ∙ ap (λ (o : Option KeptHead). with_line n o more) h.1.1 ∙ ap (λ (l : Listed). l ∷ more) line, rest))
        | inr h ↦ inr (h.0, subst More (sym (is ∙ ap (λ (o : Option KeptHead). with_line n o more) h.1)) rest)
      ]

  listing_step : (at : ℕ → Option Deposit) (numbers : List ℕ) (t : Bool) → bytes_eq d.sent.project project ≡ t → at n ≡ Some d → ((l : List Listed) → AreLines terms caller project day at numbers l → More l)
      → AreLines terms caller project day at (cond t (n ∷ numbers) numbers) lines → MatchBool t Here (More lines)
  listing_step at numbers true own holds rest h =
      let seen = subst (λ (k : Deposit). IsSeenHead terms caller project day k h.1) (same_kept (at n) h.0 d h.3 holds) h.4 in
      listed_then h.2 h.1 seen own h.5 (rest h.2 h.6)
  listing_step at numbers false own holds rest h = rest lines h

lines_listing : (terms : Terms) (caller : Caller) (project : List ℕ) (day : ℤ) (at : ℕ → Option Deposit) (n : ℕ)
    (state : List Deposit) → Stands at n state
    → (lines : List Listed) → AreLines terms caller project day at (numbers_from n project (sents state)) lines
    → IsListing terms caller project day n state lines
lines_listing terms caller project day at n [] stands lines h = h
lines_listing terms caller project day at n (d ∷ state) stands lines h =
    listing_step terms caller project day n d state lines at (numbers_from (n + 1) project (sents state))
    (bytes_eq d.sent.project project) refl (stands 0 n d refl (omega arith))
    (lines_listing terms caller project day at (n + 1) state (λ i k e is same. stands (suc i) k e is (omega (arith, same)))) h

held_stands : (state : List Deposit) → Stands (λ k. held k state) 1 state
held_stands state = λ i k d is same. let e : k ≡ suc i = omega (arith, same) in subst (λ (m : ℕ). held m state ≡ Some d) (sym e) is

pub listing_of : (terms : Terms) (caller : Caller) (project : List ℕ) (day : ℤ) (state : List Deposit)
    (lines : List Listed) → AreLines terms caller project day (λ k. held k state) (numbers_from 1 project (sents state)) lines
    → IsListing terms caller project day 1 state lines
listing_of terms caller project day state lines h = lines_listing terms caller project day (λ k. held k state) 1 state (held_stands state) lines h

-- a number of the list is one of its deposits
abbrev IsWithin : ℕ → ℕ → List ℕ → Type 0
IsWithin n count numbers = (i : ℕ) → i < length numbers → (n ≤ get_or numbers i 0) × (get_or numbers i 0 < n + count)

within_step : (t : Bool) (n count : ℕ) (numbers : List ℕ) → IsWithin (n + 1) count numbers → IsWithin n (suc count) (cond t (n ∷ numbers) numbers)
within_step true n count numbers rest zero lt = (omega arith, omega arith)
within_step true n count numbers rest (suc i) lt = let h = rest i (omega (arith, lt)) in (omega (arith, h.0), omega (arith, h.1))
within_step false n count numbers rest i lt = let h = rest i lt in (omega (arith, h.0), omega (arith, h.1))

numbers_within : (project : List ℕ) (n : ℕ) (state : List Deposit)
    → IsWithin n (length state) (numbers_from n project (sents state))
numbers_within project n [] = λ i lt. absurd (omega (arith, lt))
numbers_within project n (d ∷ state) = within_step (bytes_eq d.sent.project project) n (length state)
    (numbers_from (n + 1) project (sents state)) (numbers_within project (n + 1) state)

pub number_within : (project : List ℕ) (state : List Deposit) (numbers : List ℕ) (i : ℕ)
    → numbers ≡ numbers_from 1 project (sents state) → i < length numbers
    → (0 < get_or numbers i 0) × (get_or numbers i 0 ≤ length state)
number_within project state numbers i same lt =
    let h = subst (IsWithin 1 (length state)) (sym same) (numbers_within project 1 state) i lt in
    (omega (arith, h.0), omega (arith, h.1))

-- ---- the loop

-- one more number, whose deposit is seen or not
pub number_step : (terms : Terms) (caller : Caller) (project : List ℕ) (day : ℤ) (state : List Deposit) (all : List ℕ) (i : ℕ)
    (lines : List Listed) (head : Option KeptHead) → i < length all
    → (0 < get_or all i 0) × (get_or all i 0 ≤ length state)
    → ((d : Deposit) → held (get_or all i 0) state ≡ Some d → ∥ IsSeenHead terms caller project day d head ∥₁)
    → ∥ SoFar terms caller project day (λ k. held k state) all (drop i all) lines ∥₁
    → ∥ SoFar terms caller project day (λ k. held k state) all (drop (i + 1) all) (put_line lines (get_or all i 0) head) ∥₁
number_step terms caller project day state all i lines head lt within seen so_far =
    let at = λ (k : ℕ). held k state in
    let n = get_or all i 0 in
    let d = held_at state n within.0 within.1 in
    ∥∥₁_elim so_far (Prim.hlevel props) (λ (f : SoFar terms caller project day at all (drop i all) lines).
    ∥∥₁_map (seen d.0 d.2) (λ (is : IsSeenHead terms caller project day d.0 head).
    lines_more terms caller project day at all n (drop (i + 1) all) lines d.0 head
    (subst (λ (l : List ℕ). SoFar terms caller project day at all l lines) (drop_more all i 0 lt) f) d.2 is))

pub lines_whole : (terms : Terms) (caller : Caller) (project : List ℕ) (day : ℤ) (state : List Deposit) (all : List ℕ)
    (i : ℕ) (lines : List Listed) → length all ≤ i → all ≡ numbers_from 1 project (sents state)
    → ∥ SoFar terms caller project day (λ k. held k state) all (drop i all) lines ∥₁ → ∥ IsListing terms caller project day 1 state lines ∥₁
lines_whole terms caller project day state all i lines le same so_far =
    ∥∥₁_map so_far (λ (f : SoFar terms caller project day (λ k. held k state) all (drop i all) lines).
    listing_of terms caller project day state lines
    (subst (λ (numbers : List ℕ). AreLines terms caller project day (λ k. held k state) numbers lines) same
    (lines_end terms caller project day (λ k. held k state) all lines (subst (λ (left : List ℕ). SoFar terms caller project day (λ k. held k state) all left lines) (drop_all i all le) f))))

pub terms_same : {K : Type 0} (keep : Ghosts K) (rules : List Rule) (old new : K) (failed : Bool) → OnlyReads keep old new failed → terms_at keep rules new ≡ terms_at keep rules old
terms_same keep rules old new failed reads = cc

-- ---- the answers to a list

module _ {K : Type 0} (keep : Ghosts K) (rules : List Rule) (caller : Caller) (project : List ℕ) (day : ℤ) (old : K) where
  abbrev terms : Terms
  terms = terms_at keep rules old

  abbrev state : List Deposit
  state = keep.deposits old

  abbrev request : Asked
  request = listing caller project day

  abbrev ruling : Decision
  ruling = decided terms caller project verbs.List day

  abbrev Lists : Answer → Type 0
  Lists r = (lines : List Listed) × IsListing terms caller project day 1 state lines × (r ≡ Listing lines)

  pub listing_asks : (k : ℕ) → ruling ≡ Permit k → AsksStore (IsReply terms state request)
  listing_asks k permit =
      asks_of Lists (IsReply terms state request) (λ reply is. permit_stands ruling k Lists reply permit is)
      ((λ n h. let e = h.2 in cc, λ h. let e = h.2 in cc), λ found h. let e = h.2 in cc, λ h. let e = h.2 in cc)

  pub listing_replies : (new : K) (k : ℕ) (lines : List Listed) → ruling ≡ Permit k → OnlyReads keep old new false
      → (keep.is_sound new → ∥ IsListing terms caller project day 1 state lines ∥₁) → Serves keep rules request old new (Listing lines)
  listing_replies new k lines permit reads is =
      replies_serves keep rules request old new (Listing lines) reads tt
      (λ s. ∥∥₁_map (is s) (λ (h : IsListing terms caller project day 1 state lines). permitted_reply ruling k Lists (Listing lines) permit (lines, h, refl)))
      (λ s. inr (λ list change. change, refl)) (listing_asks k permit).0
