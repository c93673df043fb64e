-- How a connection goes, from how its steps went.
use Rattle.std.proofs.Common.{◌≡◌, ℕ, ℤ, false, ◌+◌, ◌<◌, ◌≤◌, ◌⊎◌, inl, inr, List, [], ◌∷◌, ◌++◌, length, take, drop, Option, Some, None, Result, Ok, Err, refl, sym, ap, ◌∙◌, arith, length-append, append_assoc, subst}
use Rattle.std.specs.Prelude.{IfSome, Vec, ⊤}
use Rattle.std.specs.declared.alloc.Global.{Global}
use Rattle.std.specs.Io.KnownBytes.{Appends, Consumes}
use Rattle.std.proofs.lemmas.List.{append-nil, length-take-le, take_all}
use Rattle.std.proofs.lemmas.Option.{IfSome_then}
use Rattle.httparse.specs.Grammar.{RequestHead, print_request}
use Rattle.reg_http.proofs.HeadLemmas.{none_of_nothing, none_at_one}
use Rattle.httparse.proofs.GrammarLemmas.{ReadsRequest-append, request_unique}
use Rattle.httparse.specs.declared.spans.HeaderSpan.{HeaderSpan}
use Rattle.httparse.specs.declared.spans.RequestSpans.{RequestSpans}
use Rattle.httparse.specs.Spans.{IsRequestAt}
use Rattle.reg_policy.specs.declared.callers.Credential.{Credential}
use Rattle.reg_http.specs.Agree.{is_out_of_memory}
use Rattle.reg_http.specs.Asks.{Asking, ask_of, asked_with}
use Rattle.reg_desk.specs.Asked.{Asked}
use Rattle.reg_http.specs.Heads.{HasNoHead, HoldsHead, IsHead, longest_head}
use Rattle.reg_http.specs.HeadParts.{HeadParts, head_parts}
use Rattle.reg_http.specs.Rendering.{IsRendered, answer_status, rendered, status_of}
use Rattle.reg_http.specs.Serving.{Exchange, ServesAnswer, ServesAsked, ServesOne, ServesRequest, WaitsFor, Written, body_reads, is_read}
use Rattle.reg_http.specs.Views.{FitsBody, ReadsBody}
use Rattle.reg_http.specs.Reading as reading
use Rattle.reg_http.specs.Serving as serving
use Rattle.reg_http.specs.declared.error.Refusal.{Refusal}
use Rattle.reg_http.specs.declared.error.Refusal.TheVariants.{BadHead, OutOfMemory, ShortBody}
use Rattle.reg_desk.specs.declared.answer.Answer.{Answer}
use Rattle.reg_http.specs.declared.connection.Served.{Served}
use Rattle.reg_http.specs.declared.error.IoFault.{IoFault}
use Rattle.reg_http.specs.declared.error.IoFault.TheVariants as fault
use Rattle.reg_http.specs.declared.error.BodyFault.{BodyFault}
use Rattle.reg_http.specs.declared.error.BodyFault.TheVariants as ended

-- the bytes of a reader are these, where contracts can name them
abbrev Are : Option (List ℕ) → List ℕ → Type 0
Are old bytes = IfSome old (λ named. bytes ≡ named)

-- what holds of such bytes holds of those of the reader
pub of_named : (old : Option (List ℕ)) {P : List ℕ → Type 0} → (bytes : List ℕ) × Are old bytes × P bytes → IfSome old P
of_named None x = tt
of_named (Some named) {P} (bytes, same, p) = subst P same p

-- nothing was written
Appends-none : (u : Option (List ℕ)) → Appends u u []
Appends-none None = tt
Appends-none (Some xs) = sym (append-nil xs)

-- what holds of any value holds of the one that there is
always : {A : Type 0} {P : A → Type 0} (o : Option A) → ((a : A) → P a) → IfSome o P
always None all = tt
always (Some a) all = all a

module _ {D : Type 0} (answers : D → Asked → Answer → D → Type 0) (callers : List Credential) (day : ℤ) where
  -- one of the ways of a connection, and its text written
  by_way : (bytes : List ℕ) (d e : D) (u w : Option (List ℕ)) (text : List ℕ) (status : ℕ) (result : Result Served IoFault)
      → Exchange answers callers day bytes d e text status → Written u w text status result → ServesOne answers callers day bytes d e u w result
  by_way bytes d e u w text status (Err fault.Read) way written = tt
  by_way bytes d e u w text status result way written = (text, status, way, written)

  -- nothing came
  pub serve_silent : (old : Option (List ℕ)) (d : D) (w : Option (List ℕ)) → IfSome old (λ bytes. bytes ≡ [])
      → IfSome old (λ bytes. ServesOne answers callers day bytes d d w w (Ok (record { status = 0 })))
  serve_silent old d w none = IfSome_then old none (λ bytes is. ([], 0, serving.silent (reading.silent is), (Appends-none w, refl)))

  -- bytes without a head
  pub serve_bad : (old : Option (List ℕ)) (d : D) (u w : Option (List ℕ)) (result : Result Served IoFault)
      → IfSome old (λ bytes. (0 < length bytes) × HasNoHead bytes) → Written u w (rendered BadHead) (status_of BadHead) result
      → IfSome old (λ bytes. ServesOne answers callers day bytes d d u w result)
  serve_bad old d u w result why written = IfSome_then old why
      (λ bytes bad. by_way bytes d d u w (rendered BadHead) (status_of BadHead) result (serving.refused BadHead (reading.bad_head bad.0 bad.1)) written)

  -- the same of some bytes
  pub some_bad : (d : D) (u w : Option (List ℕ)) (result : Result Served IoFault) → Written u w (rendered BadHead) (status_of BadHead) result
      → (bytes : List ℕ) × ServesOne answers callers day bytes d d u w result
  some_bad d u w result written =
      let one : List ℕ = 0 ∷ [] in
      (one, by_way one d d u w (rendered BadHead) (status_of BadHead) result (serving.refused BadHead (reading.bad_head (omega arith) (none_at_one 0))) written)

-- a head in the buffer is a head of the connection, whose rest is what came with it and what is left
pub head_of : (bytes left : List ℕ) (buf : List ℕ) (headers : List HeaderSpan) (spans : RequestSpans) (filled : ℕ)
    → (held : HoldsHead buf headers spans filled) → filled ≤ 8192 → bytes ≡ take filled buf ++ left
    → IsHead bytes held.head (drop spans.len (take filled buf) ++ left)
head_of bytes left buf headers spans filled held small split =
    let front = length-take-le filled buf held.fits in
    let whole = ap length held.at.reads.1 ∙ length-append (print_request held.head) (drop spans.len (take filled buf)) in
    record {
      reads = rw split (ReadsRequest-append (take filled buf) held.head (drop spans.len (take filled buf)) left held.at.reads);
      short = omega arith;
      few = held.few;
    }

-- the bytes of the connection begin with it
pub head_named : (old left : Option (List ℕ)) (buf : List ℕ) (headers : List HeaderSpan) (spans : RequestSpans) (filled : ℕ)
    → (held : HoldsHead buf headers spans filled) → filled ≤ 8192 → IfSome old (λ bytes. Consumes (Some bytes) left (take filled buf))
    → IfSome old (λ bytes. (rest : List ℕ) × IsHead bytes held.head rest)
head_named None left buf headers spans filled held small taken = tt
head_named (Some bytes) None buf headers spans filled held small taken = absurd taken
head_named (Some bytes) (Some more) buf headers spans filled held small taken = (_, head_of bytes more buf headers spans filled held small taken)

-- they are the head and what came after it
head_and : (old left : Option (List ℕ)) (front head early all : List ℕ) → front ≡ head ++ early → IfSome old (λ bytes. Consumes (Some bytes) left front)
    → IfSome left (λ more. all ≡ early ++ more) → Are old (head ++ all)
head_and None left front head early all split taken after = tt
head_and (Some bytes) None front head early all split taken after = absurd taken
head_and (Some bytes) (Some more) front head early all split taken after =
    ap (λ (t : List ℕ). head ++ t) after ∙ sym (append_assoc head early more) ∙ ap (λ (t : List ℕ). t ++ more) (sym split) ∙ sym taken

-- what is served of a head and what came after it is served of the bytes of the connection
pub served_whole : (P : List ℕ → Type 0) (old left : Option (List ℕ)) (buf : List ℕ) (headers : List HeaderSpan) (spans : RequestSpans) (filled : ℕ) (early : List ℕ)
    (parts : HeadParts) → (held : HoldsHead buf headers spans filled) → filled ≤ 8192 → early ≡ drop spans.len (take filled buf)
    → IfSome old (λ bytes. Consumes (Some bytes) left (take filled buf))
    → ((h : RequestHead) → IsRequestAt (take filled buf) headers spans h → parts ≡ head_parts h)
    → (all : List ℕ) × IfSome left (λ more. all ≡ early ++ more) × ((bytes : List ℕ) (h : RequestHead) → IsHead bytes h all → parts ≡ head_parts h → P bytes)
    → (bytes : List ℕ) × Are old bytes × P bytes
served_whole P old left buf headers spans filled early parts held small same taken reads (all, after, way) =
    let whole = head_of (take filled buf ++ []) [] buf headers spans filled held small refl in
    let head : IsHead (print_request held.head ++ all) held.head all = record { reads = (whole.reads.0, refl); short = whole.short; few = whole.few } in
    let split = held.at.reads.1 ∙ ap (λ (t : List ℕ). print_request held.head ++ t) (sym same) in
    (print_request held.head ++ all, head_and old left (take filled buf) (print_request held.head) early all split taken after, way _ held.head head (reads held.head held.at))

-- some bytes came after a head
pub rest_of : (left : Option (List ℕ)) (early : List ℕ) → (all : List ℕ) × IfSome left (λ more. all ≡ early ++ more)
rest_of None early = (early, tt)
rest_of (Some more) early = (early ++ more, refl)

-- what was read of a body, of such bytes
pub body_of : (left : Option (List ℕ)) (early : List ℕ) (n : ℕ) (body : Result (Vec ℕ Global) BodyFault) → IfSome left (λ more. ReadsBody (early ++ more) n body)
    → FitsBody n body → (all : List ℕ) × IfSome left (λ more. all ≡ early ++ more) × ReadsBody all n body
body_of (Some more) early n body reads fits = (early ++ more, refl, reads)
body_of None early n (Ok body) reads fits = (body.items, tt, (omega (arith, fits), sym (take_all n body.items (omega (arith, fits)))))
body_of None early n (Err ended.Short) reads fits = ([], tt, fits)
body_of None early n (Err ended.Read) reads fits = ([], tt, tt)
body_of None early n (Err ended.Memory) reads fits = ([], tt, tt)

module _ {D : Type 0} (answers : D → Asked → Answer → D → Type 0) (callers : List Credential) (day : ℤ) where
  -- a refusal of what was read of a head, or out of memory
  at_head : (parts : HeadParts) (bytes rest : List ℕ) (h : RequestHead) (d : D) (u w : Option (List ℕ)) (r : Refusal) (result : Result Served IoFault)
      → (is_out_of_memory r ≡ false → ask_of callers day parts ≡ Err r) → Written u w (rendered r) (status_of r) result
      → IsHead bytes h rest → parts ≡ head_parts h → ServesOne answers callers day bytes d d u w result
  at_head parts bytes rest h d u w r result agrees written head same =
      by_way answers callers day bytes d d u w (rendered r) (status_of r) result (way r agrees) written
    where
      way : (x : Refusal) → (is_out_of_memory x ≡ false → ask_of callers day parts ≡ Err x) → Exchange answers callers day bytes d d (rendered x) (status_of x)
      way OutOfMemory refuses = serving.no_memory h rest head
      way x refuses = serving.refused x (reading.refused h rest x head (ap (ask_of callers day) (sym same) ∙ refuses refl))

  -- the request at a head, and its body
  serve_body : (bytes all : List ℕ) (old new : D) (u w : Option (List ℕ)) (h : RequestHead) (a : Asking) (result : Result Served IoFault)
      → IsHead bytes h all → ask_of callers day (head_parts h) ≡ Ok a
      → (((a.length ≤ length all) × ServesRequest answers (asked_with a (take a.length all) day) old new u w result)
      ⊎ (((length all < a.length) × (new ≡ old) × Written u w (rendered ShortBody) (status_of ShortBody) result)
      ⊎ ((new ≡ old) × Written u w (rendered OutOfMemory) (status_of OutOfMemory) result)))
      → (text : List ℕ) × (status : ℕ) × Exchange answers callers day bytes old new text status × Written u w text status result
  serve_body bytes all old new u w h a result head asks (inl (enough, (answer, stepped, inl (text, is, written)))) =
      (_, _, serving.answered _ answer text (reading.whole h all a head asks enough) stepped is, written)
  serve_body bytes all old new u w h a result head asks (inl (enough, (answer, stepped, inr (built, written)))) =
      (_, _, serving.unwritten _ answer (reading.whole h all a head asks enough) stepped built, written)
  serve_body bytes all old new u w h a result head asks (inr (inl (under, same, written))) =
      (rendered ShortBody, status_of ShortBody, rw same (serving.refused ShortBody (reading.short_body h all a head asks under)), written)
  serve_body bytes all old new u w h a result head asks (inr (inr (same, written))) =
      (rendered OutOfMemory, status_of OutOfMemory, rw same (serving.no_memory h all head), written)

  -- the same, whichever way it went
  serve_result : (bytes all : List ℕ) (old new : D) (u w : Option (List ℕ)) (h : RequestHead) (a : Asking) (result : Result Served IoFault)
      → IsHead bytes h all → ask_of callers day (head_parts h) ≡ Ok a → ServesAsked answers a day all old new u w result
      → ServesOne answers callers day bytes old new u w result
  serve_result bytes all old new u w h a (Err fault.Read) head asks way = tt
  serve_result bytes all old new u w h a result head asks way = serve_body bytes all old new u w h a result head asks way

  -- what a head asks was served of what came after it
  pub asked_at : (left : Option (List ℕ)) (early : List ℕ) (parts : HeadParts) (d e : D) (u w : Option (List ℕ)) (a : Asking) (result : Result Served IoFault)
      → ask_of callers day parts ≡ Ok a → (all : List ℕ) × IfSome left (λ more. all ≡ early ++ more) × ServesAsked answers a day all d e u w result
      → (all : List ℕ) × IfSome left (λ more. all ≡ early ++ more) × ((bytes : List ℕ) (h : RequestHead) → IsHead bytes h all → parts ≡ head_parts h
      → ServesOne answers callers day bytes d e u w result)
  asked_at left early parts d e u w a result asks (all, after, way) =
      (all, after, λ bytes h head same. serve_result bytes all d e u w h a result head (ap (ask_of callers day) (sym same) ∙ asks) way)

  -- what was read of a head was refused, or memory ran out
  pub refused_at : (left : Option (List ℕ)) (early : List ℕ) (parts : HeadParts) (d : D) (u w : Option (List ℕ)) (r : Refusal) (result : Result Served IoFault)
      → (is_out_of_memory r ≡ false → ask_of callers day parts ≡ Err r) → Written u w (rendered r) (status_of r) result
      → (all : List ℕ) × IfSome left (λ more. all ≡ early ++ more) × ((bytes : List ℕ) (h : RequestHead) → IsHead bytes h all → parts ≡ head_parts h
      → ServesOne answers callers day bytes d d u w result)
  refused_at left early parts d u w r result agrees written =
      let came = rest_of left early in
      (came.0, came.1, λ bytes h head same. at_head parts bytes came.0 h d u w r result agrees written head same)

module _ {D : Type 0} (answers : D → Asked → Answer → D → Type 0) (a : Asking) (day : ℤ) (u w : Option (List ℕ)) where
  -- the desk was asked with the body
  pub served_body : (all : List ℕ) (body : Vec ℕ Global) (asked : Asked) (d e : D) (result : Result Served IoFault) → ReadsBody all a.length (Ok body)
      → asked ≡ asked_with a body.items day → ServesRequest answers asked d e u w result → is_read result ≡ false → ServesAsked answers a day all d e u w result
  served_body all body asked d e (Err fault.Read) read is way ok = tt
  served_body all body asked d e result read is way ok =
      inl (read.0, subst (λ (q : Asked). ServesRequest answers q d e u w result) (is ∙ ap (λ t. asked_with a t day) read.1) way)

  -- the body ended early, and that was written
  pub served_short : (all : List ℕ) (d : D) (result : Result Served IoFault) → length all < a.length → Written u w (rendered ShortBody) (status_of ShortBody) result
      → ServesAsked answers a day all d d u w result
  served_short all d (Err fault.Read) under written = tt
  served_short all d result under written = inr (inl (under, refl, written))

  -- memory ran out before the desk was asked, and that was written
  pub served_spent : (all : List ℕ) (d : D) (result : Result Served IoFault) → Written u w (rendered OutOfMemory) (status_of OutOfMemory) result
      → ServesAsked answers a day all d d u w result
  served_spent all d (Err fault.Read) written = tt
  served_spent all d result written = inr (inr (refl, written))

-- the reply to an answer was written
pub serve_reply : (answer : Answer) (text given : List ℕ) (status : ℕ) (u w : Option (List ℕ)) (r : Result Served IoFault) → IsRendered answer text → given ≡ text
    → status ≡ answer_status answer → Written u w given status r → ServesAnswer answer u w r
serve_reply answer text given status u w r is same line written =
    inl (text, is, subst (λ (t : List ℕ). Written u w t (answer_status answer) r) same (subst (λ (s : ℕ). Written u w given s r) line written))

-- where a read failed nothing is said of what came
pub nothing_said : (old : Option (List ℕ)) → IfSome old (λ bytes. ⊤)
nothing_said old = always old (λ bytes. tt)

-- nothing was written, whatever came
pub silent_same : (old : Option (List ℕ)) (P : Type 0) → P → IfSome old (λ bytes. bytes ≡ [] → P)
silent_same old P same = always old (λ bytes none. same)

-- where no byte comes, there is neither a bad head nor a head
pub silent_bad : (old : Option (List ℕ)) (P : Type 0) → IfSome old (λ bytes. (0 < length bytes) × HasNoHead bytes) → IfSome old (λ bytes. bytes ≡ [] → P)
silent_bad old P bad = IfSome_then old bad (λ bytes is none. absurd (omega (arith, is.0, ap length none)))

-- where no byte comes there is no head
pub silent_whole : (old : Option (List ℕ)) (P : Type 0) (h : RequestHead) → IfSome old (λ bytes. (rest : List ℕ) × IsHead bytes h rest) → IfSome old (λ bytes. bytes ≡ [] → P)
silent_whole old P h heads = IfSome_then old heads (λ bytes head none. absurd (none_of_nothing bytes h head.0 none head.1))

module _ (callers : List Credential) (day : ℤ) where
  -- no more was read than a head may take
  pub waits_head : (old : Option (List ℕ)) (calls : ℕ) → calls ≤ longest_head → IfSome old (λ bytes. WaitsFor callers day bytes calls)
  waits_head old calls small = always old (λ bytes. record { headless = λ none. small; headed = λ h rest head. omega (arith, small) })

  -- a head was read whole, and the body that it asks for
  pub waits_body : (old : Option (List ℕ)) (h : RequestHead) (parts : HeadParts) (calls : ℕ) → IfSome old (λ bytes. (rest : List ℕ) × IsHead bytes h rest)
      → parts ≡ head_parts h → calls ≤ longest_head + body_reads (ask_of callers day parts) → IfSome old (λ bytes. WaitsFor callers day bytes calls)
  waits_body old h parts calls heads same few = IfSome_then old heads (λ bytes head. record {
    headless = λ none. absurd (none h head.0 head.1);
    headed = λ k rest x.
        subst (λ (p : HeadParts). calls ≤ longest_head + body_reads (ask_of callers day p)) (same ∙ ap head_parts (sym (request_unique bytes k h rest _ x.reads head.1.reads).0)) few;
  })
