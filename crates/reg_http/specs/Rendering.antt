-- What refusals and answers are rendered as: status, type and body of each, and the whole reply.
use Rattle.std.specs.Prelude.{◌≡◌, ℕ, List, Bool, true, false, codes}
use Rattle.serde_json.specs.Data.{Data}
use Rattle.serde_json.specs.Written.{compact_text}
use Rattle.reg_http.specs.Replies.{reply_text, json_kind, text_kind, error_body}
use Rattle.reg_http.specs.Bodies.{clean_data, denied_data, findings_data, withdrawn_data, IsReceiptData, IsListingData}
use Rattle.reg_http.specs.declared.error.Refusal.{Refusal}
use Rattle.reg_http.specs.declared.error.Refusal.TheVariants.{BadHead, NoRoute, Method, NoCaller, LengthRequired}
use Rattle.reg_http.specs.declared.error.Refusal.TheVariants.{BadLength, TooLarge, BadParameter, ShortBody}
use Rattle.reg_http.specs.declared.error.Refusal.TheVariants.{OutOfMemory}
use Rattle.reg_desk.specs.declared.answer.Answer.{Answer}
use Rattle.reg_desk.specs.declared.answer.Answer.TheVariants as answers

-- the status of a refusal
abbrev pub status_of : Refusal → ℕ
status_of BadHead = 400
status_of NoRoute = 404
status_of Method = 405
status_of NoCaller = 401
status_of LengthRequired = 411
status_of BadLength = 400
status_of TooLarge = 413
status_of BadParameter = 400
status_of ShortBody = 400
status_of OutOfMemory = 503

-- the words of a refusal
abbrev pub words_of : Refusal → List ℕ
words_of BadHead = codes "bad head"
words_of NoRoute = codes "no route"
words_of Method = codes "method"
words_of NoCaller = codes "no caller"
words_of LengthRequired = codes "length required"
words_of BadLength = codes "bad length"
words_of TooLarge = codes "too large"
words_of BadParameter = codes "bad parameter"
words_of ShortBody = codes "short body"
words_of OutOfMemory = codes "out of memory"

-- The whole reply to a refusal.
abbrev pub rendered : Refusal → List ℕ
rendered r = reply_text (status_of r) json_kind (error_body (words_of r))

-- the status of an answer
abbrev pub answer_status : Answer → ℕ
answer_status (answers.Receipt n embargo) = 200
answer_status answers.Clean = 200
answer_status (answers.Listing ls) = 200
answer_status (answers.Text text) = 200
answer_status (answers.Withdrawn n) = 200
answer_status (answers.Denied n) = 403
answer_status (answers.Findings fs) = 422
answer_status answers.Unknown = 404
answer_status answers.TooLarge = 413
answer_status answers.Full = 507
answer_status answers.NoMemory = 503
answer_status answers.StoreFailed = 503

-- the type of an answer's body
abbrev pub answer_kind : Answer → List ℕ
answer_kind (answers.Text text) = text_kind
answer_kind _ = json_kind

-- the body of an answer
abbrev pub IsBody : Answer → List ℕ → Type 0
IsBody (answers.Receipt n embargo) body = (d : Data) × IsReceiptData n embargo d × (body ≡ compact_text d)
IsBody answers.Clean body = body ≡ compact_text clean_data
IsBody (answers.Listing ls) body = (d : Data) × IsListingData ls d × (body ≡ compact_text d)
IsBody (answers.Text text) body = body ≡ text
IsBody (answers.Withdrawn n) body = body ≡ compact_text (withdrawn_data n)
IsBody (answers.Denied n) body = body ≡ compact_text (denied_data n)
IsBody (answers.Findings fs) body = body ≡ compact_text (findings_data fs)
IsBody answers.Unknown body = body ≡ error_body (codes "unknown")
IsBody answers.TooLarge body = body ≡ error_body (codes "too large")
IsBody answers.Full body = body ≡ error_body (codes "full")
IsBody answers.NoMemory body = body ≡ error_body (codes "out of memory")
IsBody answers.StoreFailed body = body ≡ error_body (codes "store failed")

-- The whole reply to an answer.
abbrev pub IsRendered : Answer → List ℕ → Type 0
IsRendered answer reply = (body : List ℕ) × IsBody answer body
    × (reply ≡ reply_text (answer_status answer) (answer_kind answer) body)

-- the reply is the same whatever was asked, and takes no memory
abbrev pub is_fixed : Answer → Bool
is_fixed answers.Unknown = true
is_fixed answers.TooLarge = true
is_fixed answers.Full = true
is_fixed answers.NoMemory = true
is_fixed answers.StoreFailed = true
is_fixed _ = false

-- An answer is rendered as at most one text, byte for byte.
abbrev pub HasOneRendering : Type 0
HasOneRendering = (answer : Answer) (a b : List ℕ) → IsRendered answer a → IsRendered answer b → a ≡ b
