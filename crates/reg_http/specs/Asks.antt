-- What a head asks: the first refusal that holds of it, or a request without its body and that body's length.
use Rattle.std.specs.Prelude.{ℕ, ℤ, nat_eq, List, drop, Option, Some, None, Result, Ok, Err, codes, ok_or, if◌then◌else◌}
use Rattle.std.specs.List.{starts_with}
use Rattle.form_urlencoded.specs.Form.{raw_pairs}
use Rattle.reg_policy.specs.Callers.{caller_of}
use Rattle.reg_policy.specs.declared.callers.Caller.{Caller}
use Rattle.reg_policy.specs.declared.callers.Credential.{Credential}
use Rattle.reg_policy.specs.declared.subject.Verb.{Verb}
use Rattle.reg_desk.specs.Asked.{Asked}
use Rattle.reg_request.specs.Asks.{Sought, asked_by}
use Rattle.reg_http.specs.Agree.{and_then}
use Rattle.reg_http.specs.Fields.{Few, one}
use Rattle.reg_http.specs.Numbers.{length_in}
use Rattle.reg_http.specs.HeadParts.{HeadParts, values_in}
use Rattle.reg_http.specs.Queries.{project_in_path, sought_in}
use Rattle.reg_http.specs.Routes.{FoundAt, page_in, has_body, verb_in}
use Rattle.reg_http.specs.declared.error.Refusal.{Refusal}
use Rattle.reg_http.specs.declared.error.Refusal.TheVariants.{NoCaller}

-- the token after `Bearer` and one space
abbrev pub token_in : List ℕ → Option (List ℕ)
token_in value = if starts_with nat_eq value (codes "Bearer ") then Some (drop 7 value) else None

abbrev pub caller_by : List Credential → Option (List ℕ) → Result Caller Refusal
caller_by callers None = Err NoCaller
caller_by callers (Some token) = ok_or (caller_of token callers) NoCaller

-- the caller by the Authorization fields: exactly one, with a known token
abbrev pub caller_in : List Credential → Few → Result Caller Refusal
caller_in callers (one value) = caller_by callers (token_in value)
caller_in callers _ = Err NoCaller

-- the length of the body; of a request without a body no field is looked at
abbrev pub body_length : Verb → HeadParts → Result ℕ Refusal
body_length verb parts =
    if has_body verb
    then length_in (values_in parts (codes "transfer-encoding")) (values_in parts (codes "content-length"))
    else Ok 0

-- a request without its body, and the length of that
pub record Asking : Type 0 where
  pub caller : Caller
  pub project : List ℕ
  pub sought : Sought
  pub length : ℕ

-- Caller, length of the body, and parameters: each refuses before the next is looked at.
abbrev pub ask_verb : List Credential → ℤ → HeadParts → FoundAt → Verb → Result Asking Refusal
ask_verb callers day parts found verb =
    and_then (caller_in callers (values_in parts (codes "authorization"))) (λ caller.
    and_then (body_length verb parts) (λ n.
    and_then (project_in_path found.project) (λ project.
    and_then (sought_in verb found.number (raw_pairs parts.query) day) (λ sought.
    Ok (record { caller = caller; project = project; sought = sought; length = n })))))

-- Route and method come first.
abbrev pub ask_of : List Credential → ℤ → HeadParts → Result Asking Refusal
ask_of callers day parts =
    and_then (page_in parts.path) (λ found.
    and_then (verb_in found.page parts.method) (λ verb.
    ask_verb callers day parts found verb))

-- the request that is asked, with this body
abbrev pub asked_with : Asking → List ℕ → ℤ → Asked
asked_with a body day = asked_by a.sought a.caller a.project day body
