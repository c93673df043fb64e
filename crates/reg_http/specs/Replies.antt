-- The text of a reply (RFC 9112, sections 4 and 6): status line, three fields, an empty line, and the body.
use Rattle.std.specs.Prelude.{ℕ, List, [], ◌++◌, length, codes, decimal, unwrap_or}
use Rattle.http.specs.StatusCode.{reason_phrase}
use Rattle.reg_desk.specs.View.{line_end}

-- the phrase of a status
unfoldable pub phrase_of : ℕ → List ℕ
phrase_of status = unwrap_or (reason_phrase status) []

-- a text, and a status line after it
abbrev pub with_status_line : List ℕ → ℕ → List ℕ
with_status_line text status = text ++ codes "HTTP/1.1 " ++ decimal status ++ codes " " ++ phrase_of status ++ line_end

-- a text, and after it the fields of a reply and the empty line
abbrev pub with_fields : List ℕ → List ℕ → ℕ → List ℕ
with_fields text kind length =
    text ++ codes "Content-Type: " ++ kind
    ++ codes "\r\nContent-Length: " ++ decimal length
    ++ codes "\r\nConnection: close\r\n\r\n"

-- a reply up to its body, which has that many bytes
abbrev pub reply_front : ℕ → List ℕ → ℕ → List ℕ
reply_front status kind length =
    codes "HTTP/1.1 " ++ decimal status ++ codes " " ++ phrase_of status ++ line_end
    ++ codes "Content-Type: " ++ kind ++ line_end
    ++ codes "Content-Length: " ++ decimal length ++ line_end
    ++ codes "Connection: close\r\n\r\n"

-- a whole reply
abbrev pub reply_text : ℕ → List ℕ → List ℕ → List ℕ
reply_text status kind body = reply_front status kind (length body) ++ body

-- the types of a body
abbrev pub json_kind : List ℕ
json_kind = codes "application/json"

abbrev pub text_kind : List ℕ
text_kind = codes "text/plain; charset=us-ascii"

-- an object with the one member `error`
abbrev pub error_body : List ℕ → List ℕ
error_body words = codes "{\"error\":\"" ++ words ++ codes "\"}"
