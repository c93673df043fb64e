-- What is drawn and seen of a kept deposit, from what a store says of it.
use Rattle.std.proofs.Common.{◌≡◌, ℕ, zero, suc, ◌-◌, ◌<◌, ◌≤◌, Bool, true, false, Option, Some, None, Ok, Err, List, [], ◌∷◌, refl, sym, ap, subst, ◌∙◌, inl, inr, ◌⊎◌, arith}
use Rattle.std.proofs.lemmas.Option.{slice_get_within, get_or_from_slice_get}
use Rattle.std.proofs.lemmas.Bool.{true≢false}
use Rattle.std.specs.Prelude.{All, ℤ, slice_get, length, Result, ◌↔◌, MatchBool}
use Rattle.std.specs.Str.{bytes_eq}
use Rattle.std.proofs.Math.Logic.{∥∥₁_map, ∥∥₁_elim}
use Rattle.std.proofs.Props.{props}
use Rattle.ags_dict.specs.Entries.{Entries}
use Rattle.ags_check.specs.Findings.{CheckedFile}
use Rattle.reg_policy.specs.declared.rule.Rule.{Rule}
use Rattle.reg_policy.specs.declared.callers.Caller.{Caller}
use Rattle.reg_policy.specs.declared.subject.Decision.{Decision}
use Rattle.reg_policy.specs.declared.subject.Decision.TheVariants.{Permit}
use Rattle.reg_policy.specs.declared.subject.Verb.TheVariants as verbs
use Rattle.reg_store.specs.Sent.{Sent}
use Rattle.reg_store.specs.Deposit.{Deposit, sents}
use Rattle.reg_store.proofs.Lemmas.{sent_at}
use Rattle.reg_store.specs.Fit.{IsFit, IsFileOf}
use Rattle.reg_store.specs.Keep.{IsHeadOf, OfDeposit, fails}
use Rattle.reg_store.specs.declared.keep.Keep.{Ghosts}
use Rattle.reg_store.specs.declared.keep.KeepError.{KeepError}
use Rattle.reg_store.specs.declared.keep.KeepError.TheVariants as errors
use Rattle.reg_store.specs.declared.keep.KeptHead.{KeptHead}
use Rattle.reg_desk.specs.Asked.{Asked, extract}
use Rattle.reg_desk.specs.Laws.{IsModelAnswer}
use Rattle.reg_desk.specs.declared.answer.Answer.{Answer}
use Rattle.reg_desk.specs.declared.answer.Answer.TheVariants.{Text, Unknown}
use Rattle.reg_desk.specs.Shown.{Look, IsProjectShown}
use Rattle.reg_desk.specs.Extract.{IsExtractText}
use Rattle.ags_check.specs.Findings.{IsCleanFile}
use Rattle.reg_desk.specs.Machine.{Terms, decided, look_at, IsSeen, IsTextOf, IsDrawnFrom, held, IsReply}
use Rattle.ags_check.specs.Findings.{file_of}
use Rattle.reg_desk.specs.View.{look_on, Sees}
use Rattle.reg_desk.specs.Serving.{AsksStore, IsSeenHead, terms_at, OnlyReads, Serves}
use Rattle.reg_desk.proofs.Replies.{one_file}
use Rattle.reg_desk.proofs.Bodies.{where_true}
use Rattle.reg_desk.proofs.Serves.{asks_of, replies_serves, permitted_reply, permit_stands}

-- ---- a kept deposit

-- deposit n is held
pub held_at : (state : List Deposit) (n : ℕ) → 0 < n → n ≤ length state
    → (d : Deposit) × (slice_get state (n - 1) ≡ Some d) × (held n state ≡ Some d)
held_at state zero low high = absurd (omega arith)
held_at state (suc n) low high =
    let h = get_at state n (omega arith) in
    let e : n ≡ suc n - 1 = omega arith in
    (h.0, subst (λ i. slice_get state i ≡ Some h.0) e h.1, h.1)
  where
    get_at : (state : List Deposit) (n : ℕ) → n < length state → (d : Deposit) × (slice_get state n ≡ Some d)
    get_at [] n lt = absurd (omega arith)
    get_at (d ∷ state) zero lt = (d, refl)
    get_at (d ∷ state) (suc n) lt = get_at state n (omega arith)

none_held : (state : List Deposit) (n : ℕ) → (n ≡ 0) ⊎ (length state < n) → held n state ≡ None
none_held state zero h = refl
none_held state (suc n) (inl e) = absurd (omega (arith, e))
none_held [] (suc n) (inr lt) = refl
none_held (d ∷ state) (suc zero) (inr lt) = absurd (omega (arith, lt))
none_held (d ∷ state) (suc (suc n)) (inr lt) = none_held state (suc n) (inr (omega (arith, lt)))

pub fit_at : (given : Entries) (state : List Sent) (i : ℕ) (d : Sent) → All (IsFit given) state → slice_get state i ≡ Some d → IsFit given d
fit_at given state i d all at = subst (IsFit given) (get_or_from_slice_get state i d d at) (all i d (slice_get_within state i d at))

pub look_same : (terms : Terms) (caller : Caller) (day : ℤ) (d : Deposit) (head : KeptHead) → IsHeadOf d head
    → look_on terms.policy caller head day ≡ look_at terms caller day d.sent
look_same terms caller day d head is = cc

pub clean_of : (given : Entries) (d : Sent) (file : CheckedFile) → IsFileOf given d file → IsCleanFile given d.bytes (file_of file)
clean_of given d file is =
    subst (λ (b : List ℕ). IsCleanFile given b (file_of file)) is.bytes (subst (λ (g : Entries). IsCleanFile g file.bytes (file_of file)) is.given is.clean.file)

-- calls that read a store, and then an answer made from what was read
pub reads_answered : {K : Type 0} (keep : Ghosts K) (old new : K) (failed : Bool) → OnlyReads keep old new false → (keep.is_sound new → failed ≡ false) → OnlyReads keep old new failed
reads_answered keep old new failed reads lives = record {
  sound = reads.sound;
  same_dictionary = reads.same_dictionary;
  same_limit = reads.same_limit;
  failure = λ e. absurd (true≢false (sym (reads.failure e)));
  cause = λ s. lives s ∙ reads.cause s;
  same = λ s e. reads.same s refl;
  same_text = λ s e. reads.same_text s refl;
  crash = reads.crash;
  whole = reads.whole;
}

-- what a store says of the deposit of a number by its head
pub record IsHeaded (given : Entries) (state : List Deposit) (number : ℕ) (head : KeptHead) : Type 0 where
  pub kept : Deposit
  pub place : slice_get (sents state) (number - 1) ≡ Some kept.sent
  pub holds : held number state ≡ Some kept
  pub of_head : IsHeadOf kept head
  pub fit : IsFit given kept.sent

pub headed : {K : Type 0} (keep : Ghosts K) (old mid : K) (number : ℕ) (head : KeptHead)
    → (keep.is_sound old → (0 < number) × (number ≤ length (keep.deposits old)))
    → (keep.is_sound old → All (IsFit (keep.dictionary old)) (sents (keep.deposits old)))
    → OnlyReads keep old mid false → (keep.is_sound mid → (d : Deposit)
    → slice_get (keep.deposits old) (number - 1) ≡ Some d → IsHeadOf d head) → keep.is_sound mid
    → IsHeaded (keep.dictionary old) (keep.deposits old) number head
headed keep old mid number head within fit first read s =
    let s0 = first.sound s in
    let state = keep.deposits old in
    let place = within s0 in
    let d = held_at state number place.0 place.1 in
    let sent = sent_at state (number - 1) d.0 d.1 in
    record {
      kept = d.0;
      place = sent;
      holds = d.2;
      of_head = read s d.0 d.1;
      fit = fit_at (keep.dictionary old)
          (sents state) (number - 1) d.0.sent (fit s0) sent;
    }

-- ---- what is drawn

-- no deposit has the number
pub unheld_drawn : (terms : Terms) (state : List Deposit) (caller : Caller) (project : List ℕ) (number : ℕ)
    (groups : List (List ℕ)) (day : ℤ) → (number ≡ 0) ⊎ (length state < number)
    → IsDrawnFrom terms caller project groups day (held number state) Unknown
unheld_drawn terms state caller project number groups day outside =
    subst (λ (o : Option Deposit). IsDrawnFrom terms caller project groups day o Unknown)
    (sym (none_held state number outside)) refl

-- what follows where it is seen, and where not
where_seen : (t : Bool) (Seen A B C D : Type 0) → (A → C) → (B → D)
    → MatchBool t ((Seen × A) ⊎ ((Seen → ⊥) × B)) B → MatchBool t ((Seen × C) ⊎ ((Seen → ⊥) × D)) D
where_seen true Seen A B C D f g (inl h) = inl (h.0, f h.1)
where_seen true Seen A B C D f g (inr h) = inr (h.0, g h.1)
where_seen false Seen A B C D f g h = g h

unseen_drawn : (terms : Terms) (caller : Caller) (project : List ℕ) (groups : List (List ℕ)) (day : ℤ) (d : Deposit)
    → IsSeenHead terms caller project day d None → IsDrawnFrom terms caller project groups day (Some d) Unknown
unseen_drawn terms caller project groups day d seen =
    where_seen (bytes_eq d.sent.project project) _ _ _ _ _ (λ h. let none = h.1 in cc) (λ e. refl) seen

seen_drawn : (terms : Terms) (caller : Caller) (project : List ℕ) (groups : List (List ℕ)) (day : ℤ) (d : Deposit)
    (head : KeptHead) (file : CheckedFile) (text : List ℕ) → IsFileOf terms.dictionary d.sent file
    → IsExtractText (look_on terms.policy caller head day) (file_of file) groups text
    → IsSeenHead terms caller project day d (Some head) → IsDrawnFrom terms caller project groups day (Some d) (Text text)
seen_drawn terms caller project groups day d head file text is drawn seen =
    where_seen (bytes_eq d.sent.project project) _ _ _ _ _
    (λ (h : (other : KeptHead) × (Some head ≡ Some other) × IsHeadOf d other).
    let same : h.0 ≡ head = (let e = h.1 in cc) in
    let look = look_same terms caller day d head (subst (IsHeadOf d) same h.2) in
    (text, (file_of file, clean_of terms.dictionary d.sent file is, subst (λ (l : Look). IsExtractText l (file_of file) groups text) look drawn), refl))
    (λ e. cc) seen

-- it is withdrawn, or of another project
pub other_unseen : (terms : Terms) (caller : Caller) (project : List ℕ) (day : ℤ) (d : Deposit) (head : KeptHead) → IsHeadOf d head
    → (head.withdrawn ≡ true) ⊎ (bytes_eq head.project project ≡ false) → IsSeenHead terms caller project day d None
other_unseen terms caller project day d head of_head other =
    unseen (bytes_eq d.sent.project project) _ _ _ (λ same seen. elim other [
      | inl marked ↦ true≢false (sym marked ∙ of_head.withdrawn ∙ seen.0)
      | inr another ↦ true≢false (sym same ∙ ap (λ (p : List ℕ). bytes_eq p project) (sym of_head.project) ∙ another)
    ]) refl
  where
    unseen : (t : Bool) (Seen Then Else : Type 0) → (t ≡ true → Seen → ⊥) → Else → MatchBool t ((Seen × Then) ⊎ ((Seen → ⊥) × Else)) Else
    unseen true Seen Then Else never is = inr (never refl, is)
    unseen false Seen Then Else never is = is

-- ---- the answers to an extract

-- what is drawn is answered by a text, or by Unknown
abbrev IsOne : Answer → Type 0
IsOne answer = (answer ≡ Unknown) ⊎ ((t : List ℕ) × (answer ≡ Text t))

one_of : (terms : Terms) (caller : Caller) (project : List ℕ) (groups : List (List ℕ)) (day : ℤ) (d : Deposit)
    (t : Bool) (answer : Answer)
    → MatchBool t ((IsSeen terms caller day d ×
    ((text : List ℕ) × IsTextOf terms caller day groups d.sent text ×
    (answer ≡ Text text))) ⊎ ((IsSeen terms caller day d → ⊥) × (answer ≡ Unknown))) (answer ≡ Unknown) → IsOne answer
one_of terms caller project groups day d true answer (inl h) = inr (h.1.0, h.1.2)
one_of terms caller project groups day d true answer (inr h) = inl h.1
one_of terms caller project groups day d false answer h = inl h

drawn_one : (terms : Terms) (caller : Caller) (project : List ℕ) (groups : List (List ℕ)) (day : ℤ)
    (o : Option Deposit) (answer : Answer) → IsDrawnFrom terms caller project groups day o answer → IsOne answer
drawn_one terms caller project groups day None answer h = inl h
drawn_one terms caller project groups day (Some d) answer h = one_of terms caller project groups day d
    (bytes_eq d.sent.project project) answer h

one_asks : AsksStore IsOne
one_asks = (
  (λ n h. elim h [ inl e ↦ cc | inr e ↦ let same = e.1 in cc ], λ h. elim h [ inl e ↦ cc | inr e ↦ let same = e.1 in cc ]),
  λ found h. elim h [ inl e ↦ cc | inr e ↦ let same = e.1 in cc ],
  λ h. elim h [ inl e ↦ cc | inr e ↦ let same = e.1 in cc ],
)

module _ {K : Type 0} (keep : Ghosts K) (rules : List Rule) (caller : Caller) (project : List ℕ) (number : ℕ) (groups : List (List ℕ)) (day : ℤ) (old : K) where
  abbrev terms : Terms
  terms = terms_at keep rules old

  abbrev request : Asked
  request = extract caller project number groups day

  abbrev ruling : Decision
  ruling = decided terms caller project verbs.Extract day

  abbrev Drawn : Answer → Type 0
  Drawn = IsDrawnFrom terms caller project groups day (held number (keep.deposits old))

  -- the head that is read of a deposit of the number, or none
  abbrev pub IsReadHead : Option KeptHead → Type 0
  IsReadHead head = (d : Deposit) → held number (keep.deposits old) ≡ Some d → ∥ IsSeenHead terms caller project day d head ∥₁

  pub none_drawn : (0 < number) × (number ≤ length (keep.deposits old)) → IsReadHead None → ∥ Drawn Unknown ∥₁
  none_drawn within seen =
      let d = held_at (keep.deposits old) number within.0 within.1 in
      subst (λ (o : Option Deposit). ∥ IsDrawnFrom terms caller project groups day o Unknown ∥₁) (sym d.2)
      (∥∥₁_map (seen d.0 d.2) (unseen_drawn terms caller project groups day d.0))

  pub head_drawn : (head : KeptHead) (text : List ℕ) → (0 < number) × (number ≤ length (keep.deposits old)) → All (IsFit (keep.dictionary old)) (sents (keep.deposits old)) → IsReadHead (Some head)
      → OfDeposit (keep.dictionary old) (sents (keep.deposits old)) number (λ file. IsExtractText (look_on rules caller head day) (file_of file) groups text)
      → ∥ Drawn (Text text) ∥₁
  head_drawn head text within fit seen drawn =
      let state = keep.deposits old in
      let d = held_at state number within.0 within.1 in
      let sent = sent_at state (number - 1) d.0 d.1 in
      subst (λ (o : Option Deposit). ∥ IsDrawnFrom terms caller project groups day o (Text text) ∥₁) (sym d.2)
      (∥∥₁_elim (seen d.0 d.2) (Prim.hlevel props) (λ (is : IsSeenHead terms caller project day d.0 (Some head)).
      ∥∥₁_map (fit_at (keep.dictionary old) (sents state) (number - 1) d.0.sent fit sent) (λ (f : (file : CheckedFile) × IsFileOf (keep.dictionary old) d.0.sent file).
      seen_drawn terms caller project groups day d.0 head f.0 text f.1 (drawn d.0.sent f.0 sent f.1) is)))

  pub extract_asks : (k : ℕ) → ruling ≡ Permit k → AsksStore (IsReply terms (keep.deposits old) request)
  extract_asks k permit =
      asks_of IsOne (IsReply terms (keep.deposits old) request)
      (λ reply is. drawn_one terms caller project groups day (held number (keep.deposits old)) reply (permit_stands ruling k Drawn reply permit is)) one_asks

  pub extract_replies : (new : K) (k : ℕ) (answer : Answer) → ruling ≡ Permit k → OnlyReads keep old new false → IsModelAnswer answer
      → (keep.is_sound new → ∥ Drawn answer ∥₁) → Serves keep rules request old new answer
  extract_replies new k answer permit reads from_model drawn =
      replies_serves keep rules request old new answer reads from_model (λ s. ∥∥₁_map (drawn s) (permitted_reply ruling k Drawn answer permit))
      (λ s. inr (λ list change. change, refl)) (extract_asks k permit).0

-- ---- what is seen

pub same_kept : (o : Option Deposit) (d e : Deposit) → o ≡ Some d → o ≡ Some e → d ≡ e
same_kept o d e a b = cc

-- a reading of what is kept of a deposit does not fail the store
pub kept_lives : {K X : Type 0} (keep : Ghosts K) (old : K) (number : ℕ) (r : Result X KeepError)
    → (0 < number) × (number ≤ length (keep.deposits old))
    → All (IsFit (keep.dictionary old)) (sents (keep.deposits old))
    → (r ≡ Err errors.Store → OfDeposit (keep.dictionary old) (sents (keep.deposits old)) number (λ file. ⊥))
    → fails r ≡ false
kept_lives keep old number (Ok x) within fit broken = refl
kept_lives keep old number (Err errors.Full) within fit broken = refl
kept_lives keep old number (Err errors.NoMemory) within fit broken = refl
kept_lives keep old number (Err errors.Store) within fit broken =
    let d = held_at (keep.deposits old) number within.0 within.1 in
    let sent = sent_at (keep.deposits old) (number - 1) d.0 d.1 in
    absurd (∥∥₁_elim (fit_at (keep.dictionary old) (sents (keep.deposits old)) (number - 1) d.0.sent fit sent)
    (Prim.hlevel props)
    (λ (f : (file : CheckedFile) × IsFileOf (keep.dictionary old) d.0.sent file). broken refl d.0.sent f.0 sent f.1))

-- the project's, and not withdrawn: whether its row of PROJ is shown, where that was read after its head
module _ {K : Type 0} (keep : Ghosts K) (rules : List Rule) (old mid : K) (caller : Caller) (project : List ℕ) (number : ℕ) (day : ℤ) (head : KeptHead) (look : Look) (seen : Bool)
    (reads : OnlyReads keep old mid false) (s : keep.is_sound mid) (h : IsHeaded (keep.dictionary old) (keep.deposits old) number head)
    (same : look ≡ look_on rules caller head day)
    (sees : OfDeposit (keep.dictionary mid) (sents (keep.deposits mid)) number (λ file. Sees look file seen))
    (unmarked : head.withdrawn ≡ false) (own : bytes_eq head.project project ≡ true) where
  abbrev its_look : Look
  its_look = look_at (terms_at keep rules old) caller day h.kept.sent

  abbrev IsHead : Option KeptHead → Type 0
  IsHead = IsSeenHead (terms_at keep rules old) caller project day h.kept

  abbrev Files : Type 0
  Files = (file : CheckedFile) × IsFileOf (keep.dictionary old) h.kept.sent file

  seen_file : (file : CheckedFile) → IsFileOf (keep.dictionary old) h.kept.sent file → (seen ≡ true) ↔ IsProjectShown its_look (file_of file)
  seen_file file is =
      subst (λ (l : Look). (seen ≡ true) ↔ IsProjectShown l (file_of file)) (same ∙ look_same (terms_at keep rules old) caller day h.kept head h.of_head)
      (sees h.kept.sent file (ap (λ (l : List Deposit). slice_get (sents l) (number - 1)) (reads.same s refl) ∙ h.place)
      (subst (λ (e : Entries). IsFileOf e h.kept.sent file) (sym reads.same_dictionary) is))

  own_kept : bytes_eq h.kept.sent.project project ≡ true
  own_kept = ap (λ (p : List ℕ). bytes_eq p project) (sym h.of_head.project) ∙ own

  pub shown_seen : seen ≡ true → ∥ IsHead (Some head) ∥₁
  shown_seen is = ∥∥₁_map h.fit (λ (f : Files).
      where_true (bytes_eq h.kept.sent.project project) _ _ own_kept
      (inl ((sym h.of_head.withdrawn ∙ unmarked, (file_of f.0, clean_of (keep.dictionary old) h.kept.sent f.0 f.1, (seen_file f.0 f.1).0 is)), (head, refl, h.of_head))))

  pub hidden_unseen : seen ≡ false → ∥ IsHead None ∥₁
  hidden_unseen is = ∥∥₁_map h.fit (λ (f : Files).
      where_true (bytes_eq h.kept.sent.project project) _ _ own_kept
      (inr (
        (λ (was : IsSeen (terms_at keep rules old) caller day h.kept).
            let one = one_file (keep.dictionary old) h.kept.sent.bytes was.1.0 (file_of f.0) was.1.1 (clean_of (keep.dictionary old) h.kept.sent f.0 f.1) in
            true≢false (sym ((seen_file f.0 f.1).1 (subst (IsProjectShown its_look) one was.1.2)) ∙ is)),
        refl,
      )))
