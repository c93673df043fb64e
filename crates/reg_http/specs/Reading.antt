-- What the bytes of a connection are read as: nothing, a refusal, or a request.
use Rattle.std.specs.Prelude.{◌≡◌, ℕ, ℤ, ◌≤◌, ◌<◌, List, [], length, take, Ok, Err}
use Rattle.httparse.specs.Grammar.{RequestHead}
use Rattle.reg_policy.specs.declared.callers.Credential.{Credential}
use Rattle.reg_http.specs.Asks.{Asking, ask_of, asked_with}
use Rattle.reg_desk.specs.Asked.{Asked}
use Rattle.reg_http.specs.Heads.{IsHead, HasNoHead}
use Rattle.reg_http.specs.HeadParts.{head_parts}
use Rattle.reg_http.specs.declared.error.Refusal.{Refusal}
use Rattle.reg_http.specs.declared.error.Refusal.TheVariants.{BadHead, ShortBody}

-- what a connection says
pub data Heard : Type 0 where
  nothing : Heard
  refusal : (r : Refusal) → Heard
  request : (asked : Asked) → Heard

-- Head, what it asks, and body are three definitions, joined here. The body is what follows the head, up to the length
-- that was asked; bytes beyond it are ignored.
pub data ReadAs (callers : List Credential) (day : ℤ) (bytes : List ℕ) : Heard → Type 0 where
  silent : bytes ≡ [] → ReadAs callers day bytes nothing
  bad_head : 0 < length bytes → HasNoHead bytes → ReadAs callers day bytes (refusal BadHead)
  refused : (h : RequestHead) (rest : List ℕ) (r : Refusal) → IsHead bytes h rest
      → ask_of callers day (head_parts h) ≡ Err r → ReadAs callers day bytes (refusal r)
  short_body : (h : RequestHead) (rest : List ℕ) (a : Asking) → IsHead bytes h rest
      → ask_of callers day (head_parts h) ≡ Ok a
      → length rest < a.length → ReadAs callers day bytes (refusal ShortBody)
  whole : (h : RequestHead) (rest : List ℕ) (a : Asking) → IsHead bytes h rest
      → ask_of callers day (head_parts h) ≡ Ok a
      → a.length ≤ length rest → ReadAs callers day bytes (request (asked_with a (take a.length rest) day))

-- Bytes are read as at most one thing.
abbrev pub HasOneReading : Type 0
HasOneReading = (callers : List Credential) (day : ℤ) (bytes : List ℕ) (a b : Heard)
    → ReadAs callers day bytes a → ReadAs callers day bytes b → a ≡ b
