-- The bodies of the answers that are values, and replies from their bodies.
use Rattle.std.proofs.Common.{◌≡◌, ℕ, ℤ, List, ap, ◌∙◌, false, Result, Ok, Err}
use Rattle.std.specs.Prelude.{IfOk, Vec}
use Rattle.std.specs.declared.alloc.AllocError.{AllocError}
use Rattle.std.specs.declared.alloc.Global.{Global}
use Rattle.serde_json.specs.declared.value.Value.{Value}
use Rattle.serde_json.specs.Data.{Data}
use Rattle.serde_json.specs.View.{view}
use Rattle.serde_json.specs.Written.{has_float}
use Rattle.reg_policy.specs.Days.{Writes}
use Rattle.reg_http.specs.Bodies.{IsReceiptData, receipt_data}
use Rattle.reg_http.specs.Rendering.{IsBody, IsRendered, answer_kind, answer_status}
use Rattle.reg_http.specs.Replies.{reply_text}
use Rattle.reg_desk.specs.declared.answer.Answer.{Answer}

-- a receipt has no float
pub receipt_no_float : (n : ℕ) (embargo : ℤ) (d : Data) → IsReceiptData n embargo d → has_float d ≡ false
receipt_no_float n embargo d (text, writes, is) = ap has_float is

-- the value with the day's text
pub receipt_with : (n : ℕ) (embargo : ℤ) (text given : List ℕ) (r : Result Value AllocError) → Writes text embargo → given ≡ text
    → IfOk r (λ v. view v ≡ receipt_data given n) → IfOk r (λ v. IsReceiptData n embargo (view v))
receipt_with n embargo text given (Ok v) writes same is = (text, writes, is ∙ ap (λ t. receipt_data t n) same)
receipt_with n embargo text given (Err e) writes same is = tt

-- a reply from its body
pub replied : (answer : Answer) (body : List ℕ) (r : Result (Vec ℕ Global) AllocError) → IsBody answer body
    → IfOk r (λ v. v.items ≡ reply_text (answer_status answer) (answer_kind answer) body) → IfOk r (λ v. IsRendered answer v.items)
replied answer body (Ok v) is fact = (body, is, fact)
replied answer body (Err e) is fact = tt
