-- The head of a request at the front of the bytes of a connection, within the limits.
use Rattle.std.specs.Prelude.{◌≡◌, ℕ, ◌<◌, ◌≤◌, List, [], length, take, Option, Some, IfSome, Bool, true, false, ⊤}
use Rattle.std.specs.declared.io.Read.{Ghosts as ReadGhosts}
use Rattle.httparse.specs.Grammar.{RequestHead, print_request, ReadsRequest}
use Rattle.httparse.specs.declared.spans.HeaderSpan.{HeaderSpan}
use Rattle.httparse.specs.declared.spans.RequestSpans.{RequestSpans}
use Rattle.httparse.specs.Spans.{IsRequestAt, IsRequestWithin}
use Rattle.std.specs.Io.KnownBytes.{Consumes}
use Rattle.reg_http.specs.Tallies.{tally_inner}
use Rattle.reg_http.specs.declared.tally.Tally.{Tally}
use Rattle.reg_http.specs.declared.request.head.HeadRead.{HeadRead}
use Rattle.reg_http.specs.declared.request.head.HeadRead.TheVariants.{Empty, Fault, Bad, Whole}

-- the limits of a head: its bytes, empty lines before it and the empty line after it included, and its fields
abbrev pub longest_head : ℕ
longest_head = 8192

abbrev pub most_fields : ℕ
most_fields = 32

-- A request head of HTTP/1.0 or 1.1 (RFC 9112, sections 2 and 3; the grammar is that of `httparse`): the bytes are
-- the head h, and then rest, and h is within the limits.
pub record IsHead (bytes : List ℕ) (h : RequestHead) (rest : List ℕ) : Type 0 where
  pub reads : ReadsRequest bytes h rest
  pub short : length (print_request h) ≤ longest_head
  pub few : length h.fields ≤ most_fields

-- no head within the limits is at the front
abbrev pub HasNoHead : List ℕ → Type 0
HasNoHead bytes = (h : RequestHead) (rest : List ℕ) → ¬ (IsHead bytes h rest)

-- each head at the front has more fields than the limit
abbrev pub HasNoFewRequest : List ℕ → Type 0
HasNoFewRequest bytes = (h : RequestHead) (rest : List ℕ) → ReadsRequest bytes h rest → most_fields < length h.fields

-- the first bytes of the buffer are the head h and what came with it
pub record HoldsHead (buf : List ℕ) (headers : List HeaderSpan) (spans : RequestSpans) (filled : ℕ) : Type 0 where
  pub head : RequestHead
  pub at : IsRequestAt (take filled buf) headers spans head
  pub within : IsRequestWithin (take filled buf) headers spans
  pub few : length head.fields ≤ most_fields
  pub fits : filled ≤ length buf

-- a whole head is in the buffer, whatever is known of the reader
abbrev pub HoldsIfWhole : List ℕ → List HeaderSpan → HeadRead → Type 0
HoldsIfWhole buf headers Empty = ⊤
HoldsIfWhole buf headers Fault = ⊤
HoldsIfWhole buf headers Bad = ⊤
HoldsIfWhole buf headers (Whole spans filled) = HoldsHead buf headers spans filled × (filled ≤ longest_head)

-- what was read, where the reader held those bytes and left these
abbrev pub ReadsHead : List ℕ → Option (List ℕ) → List ℕ → List HeaderSpan → HeadRead → Type 0
ReadsHead bytes left buf headers Empty = bytes ≡ []
ReadsHead bytes left buf headers Fault = ⊤
ReadsHead bytes left buf headers Bad = (0 < length bytes) × HasNoHead bytes
ReadsHead bytes left buf headers (Whole spans filled) = Consumes (Some bytes) left (take filled buf)

-- the same of a reader, if contracts can name its bytes
abbrev pub ReadsHeadFrom : {R : Type 0} → ReadGhosts R → Tally R → Tally R → List ℕ → List HeaderSpan → HeadRead
    → Type 0
ReadsHeadFrom reads old new buf headers read =
    IfSome (reads.remaining (tally_inner old))
    (λ bytes. ReadsHead bytes (reads.remaining (tally_inner new)) buf headers read)

-- the read failed
abbrev pub is_fault : HeadRead → Bool
is_fault Empty = false
is_fault Fault = true
is_fault Bad = false
is_fault (Whole spans filled) = false

-- how many calls were made, at most
abbrev pub most_read : HeadRead → ℕ
most_read Empty = 1
most_read Fault = longest_head
most_read Bad = longest_head
most_read (Whole spans filled) = filled
