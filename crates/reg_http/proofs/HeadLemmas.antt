-- When the bytes of a connection have a head within the limits, and when they have none.
use Rattle.std.proofs.Common.{◌≡◌, ℕ, ◌≤◌, List, [], ◌∷◌, ◌++◌, length, take, drop, Option, Some, None, sym, ap, ◌∙◌, arith, length-append}
use Rattle.std.proofs.lemmas.List.{take-append-le, take-append-drop, length-take-le, length-map}
use Rattle.std.proofs.Math.Seq.{take-append_seam}
use Rattle.std.specs.Io.KnownBytes.{Consumes}
use Rattle.httparse.specs.Grammar.{RequestHead, ReadsRequest, print_request, print_blank, print_version, print_end, print_section}
use Rattle.httparse.specs.Spans.{IsRequestAt, IsRequestWithin}
use Rattle.httparse.specs.declared.spans.HeaderSpan.{HeaderSpan}
use Rattle.httparse.specs.declared.spans.RequestSpans.{RequestSpans}
use Rattle.httparse.proofs.GrammarLemmas.{print_request-append}
use Rattle.reg_http.specs.Heads.{HasNoFewRequest, HasNoHead, HoldsHead, IsHead, ReadsHead}
use Rattle.std.specs.Prelude.{IfSome}
use Rattle.reg_http.specs.declared.request.head.HeadRead.TheVariants.{Bad, Whole}

-- a request has two bytes, or more
two_bytes : (bytes : List ℕ) (h : RequestHead) (rest : List ℕ) → ReadsRequest bytes h rest → 2 ≤ length bytes
two_bytes bytes h rest reads =
    let after = print_version h.minor ++ (print_end h.line_end ++ (print_section h.fields h.last ++ rest)) in
    let all : length bytes ≡ length (print_blank h.blank ++ (h.method ++ 32 ∷ (h.target ++ 32 ∷ after))) =
    ap length (reads.1 ∙ print_request-append h rest) in
    let some = length-append (print_blank h.blank) (h.method ++ 32 ∷ (h.target ++ 32 ∷ after)) in
    let more = length-append h.method (32 ∷ (h.target ++ 32 ∷ after)) in
    let last = length-append h.target (32 ∷ after) in
    omega arith

-- no bytes are no head
pub none_at_first : HasNoFewRequest []
none_at_first h rest reads = absurd (omega (arith, two_bytes [] h rest reads))

pub none_of_nothing : (bytes : List ℕ) (h : RequestHead) (rest : List ℕ) → bytes ≡ [] → IsHead bytes h rest → ⊥
none_of_nothing bytes h rest none head = omega (arith, two_bytes bytes h rest head.reads, ap length none)

-- nor is one byte
pub none_at_one : (b : ℕ) → HasNoHead (b ∷ [])
none_at_one b h rest head = absurd (omega (arith, two_bytes (b ∷ []) h rest head.reads))

-- what fits in the front is in the front
cut : (front rest p q : List ℕ) → front ++ rest ≡ p ++ q → length p ≤ length front → front ≡ p ++ drop (length p) front
cut front rest p q same fits =
    let head : take (length p) front ≡ p =
    sym (take-append-le (length p) front rest fits) ∙ ap (take (length p)) same ∙ take-append_seam p q in
    sym (take-append-drop (length p) front) ∙ ap (λ t. t ++ drop (length p) front) head

-- the first 8,192 bytes have no head
pub none_in_limit : (bytes front rest : List ℕ) → bytes ≡ front ++ rest → 8192 ≤ length front → HasNoFewRequest front
    → HasNoHead bytes
none_in_limit bytes front rest split long none h q head =
    let short = head.short in
    let inside = cut front rest (print_request h) q (sym split ∙ head.reads.1) (omega arith) in
    let many = none h _ (head.reads.0, inside) in
    let few = head.few in
    omega arith

-- the parser's answer has no more fields than the room
pub few_fields : (buf : List ℕ) (headers : List HeaderSpan) (spans : RequestSpans) (h : RequestHead)
    → IsRequestAt buf headers spans h → IsRequestWithin buf headers spans → length headers ≡ 32 → length h.fields ≤ 32
few_fields buf headers spans h at within room =
    let fits = within.section.count_fits in
    let printed = simp length-map at (ap length at.fields) in
    let n = length-take-le spans.headers headers fits in
    omega arith

-- the head is whole
pub holds_whole : (buf : List ℕ) (headers : List HeaderSpan) (spans : RequestSpans) (filled : ℕ) → filled ≤ length buf → length headers ≡ 32
    → ((h : RequestHead) × IsRequestAt (take filled buf) headers spans h) → IsRequestWithin (take filled buf) headers spans
    → HoldsHead buf headers spans filled
holds_whole buf headers spans filled fits room found within = record {
  head = found.0;
  at = found.1;
  within = within;
  few = few_fields (take filled buf) headers spans found.0 found.1 within room;
  fits = fits;
}

-- a whole head was read
pub reads_whole : (old left : Option (List ℕ)) (buf : List ℕ) (headers : List HeaderSpan) (spans : RequestSpans) (filled : ℕ)
    → Consumes old left (take filled buf) → IfSome old (λ bytes. ReadsHead bytes left buf headers (Whole spans filled))
reads_whole None left buf headers spans filled taken = tt
reads_whole (Some bytes) left buf headers spans filled taken = taken

-- the buffer is full
pub reads_full : (old left : Option (List ℕ)) (buf : List ℕ) (headers : List HeaderSpan) (filled : ℕ)
    → filled ≤ length buf → 8192 ≤ filled → Consumes old left (take filled buf) → HasNoFewRequest (take filled buf)
    → IfSome old (λ bytes. ReadsHead bytes left buf headers Bad)
reads_full None left buf headers filled fits long taken none = tt
reads_full (Some xs) None buf headers filled fits long taken none = absurd taken
reads_full (Some xs) (Some ys) buf headers filled fits long taken none =
    let front = length-take-le filled buf fits in
    let whole = ap length taken ∙ length-append (take filled buf) ys in
    (omega arith, none_in_limit xs (take filled buf) ys taken (omega arith) none)
