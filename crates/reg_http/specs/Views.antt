-- What the code reads of a request, as the definitions have it.
use Rattle.std.specs.Prelude.{◌≡◌, ℕ, ◌≤◌, ◌<◌, List, length, take, Option, Some, None, Result, Ok, Err, Bool, true}
use Rattle.std.specs.Prelude.{false, ⊤, Vec}
use Rattle.std.specs.Borrow.{Bor}
use Rattle.std.specs.declared.alloc.Global.{Global}
use Rattle.std.specs.declared.borrow.CowStr.{CowStr}
use Rattle.std.specs.Cow.{cow_str_bytes}
use Rattle.reg_policy.specs.declared.callers.Caller.{Caller}
use Rattle.reg_request.specs.Asks.{sought_at}
use Rattle.reg_http.specs.Asks.{Asking}
use Rattle.reg_http.specs.Routes.{FoundAt}
use Rattle.reg_http.specs.declared.request.route.FoundPage.{FoundPage}
use Rattle.reg_http.specs.declared.request.HeadAsk.{HeadAsk}
use Rattle.reg_http.specs.declared.error.BodyFault.{BodyFault}
use Rattle.reg_http.specs.declared.error.BodyFault.TheVariants as fault

abbrev pub itself : {A : Type 0} → A → A
itself a = a

-- the caller, of one that is lent with its token
abbrev pub first_lent : {A : Type 0} → Bor Caller × A → Caller
first_lent p = p.0.now

abbrev pub found_page : FoundPage → FoundAt
found_page f = record { page = f.page; project = f.project.now; number = f.number.now }

-- a text that may have been given
abbrev pub given_text : {Z : Type 0} → Option (CowStr Z) → Option (List ℕ)
given_text None = None
given_text (Some text) = Some (cow_str_bytes text)

abbrev pub asking_at : HeadAsk → Asking
asking_at a = record { caller = a.caller.now; project = a.project; sought = sought_at a.ask; length = a.length }

-- what was read of a body of that length, where those bytes were to come: its bytes, or that they ended early
abbrev pub ReadsBody : List ℕ → ℕ → Result (Vec ℕ Global) BodyFault → Type 0
ReadsBody all n (Ok body) = (n ≤ length all) × (body.items ≡ take n all)
ReadsBody all n (Err fault.Short) = length all < n
ReadsBody all n (Err fault.Read) = ⊤
ReadsBody all n (Err fault.Memory) = ⊤

-- the same, whatever is known of what was to come: a body has that length, and of no length none ends early
abbrev pub FitsBody : ℕ → Result (Vec ℕ Global) BodyFault → Type 0
FitsBody n (Ok body) = length body.items ≡ n
FitsBody n (Err fault.Short) = 0 < n
FitsBody n (Err fault.Read) = ⊤
FitsBody n (Err fault.Memory) = ⊤

-- the read failed
abbrev pub is_read_fault : Result (Vec ℕ Global) BodyFault → Bool
is_read_fault (Ok body) = false
is_read_fault (Err fault.Short) = false
is_read_fault (Err fault.Read) = true
is_read_fault (Err fault.Memory) = false
