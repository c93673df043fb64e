-- The callers that a document lists, and who has a token.
use Rattle.std.specs.Prelude.{◌≡◌, ℕ, List, [], ◌∷◌, codes, Bool, true, false, not, ◌&&◌, if◌then◌else◌, Option, Some, None, Result, Ok, Err, IsTrue}
use Rattle.std.specs.List.{list_any}
use Rattle.std.specs.Str.{bytes_eq}
use Rattle.toml.specs.Data.{Data, string, Members, get_member}
use Rattle.reg_policy.specs.Documents.{IsListOf, IsRefused}
use Rattle.reg_policy.specs.Names.{is_name, is_token}
use Rattle.reg_policy.specs.declared.callers.Caller.{Caller}
use Rattle.reg_policy.specs.declared.callers.Credential.{Credential}
use Rattle.reg_policy.specs.declared.error.CallersError.{CallersError}
use Rattle.reg_policy.specs.declared.error.CallersError.TheVariants.{Syntax, UnknownKey, BadValue, DuplicateToken, NoMemory}
use Rattle.reg_policy.specs.declared.error.ReadError.{ReadError}
use Rattle.reg_policy.specs.declared.error.ReadError.TheVariants as ReadErrors

-- the array of the callers, and the keys of a caller
abbrev pub caller_key : List ℕ
caller_key = codes "caller"

abbrev pub caller_keys : List (List ℕ)
caller_keys = codes "token" ∷ codes "firm" ∷ codes "role" ∷ []

-- a text that passes
abbrev pub IsText : (List ℕ → Bool) → Option Data → List ℕ → Type 0
IsText passes value text = (value ≡ Some (string text)) × IsTrue (passes text)

-- The caller that a table lists, with its token.
pub record IsCaller (table : Members) (l : Credential) : Type 0 where
  pub token : IsText is_token (get_member (codes "token") table) l.token
  pub firm : IsText is_name (get_member (codes "firm") table) l.caller.firm
  pub role : IsText is_name (get_member (codes "role") table) l.caller.role

-- one of the callers has the token
abbrev pub has_token : List ℕ → List Credential → Bool
has_token token callers = list_any (λ l. bytes_eq token l.token) callers

-- no token occurs twice
abbrev pub are_unique : List Credential → Bool
are_unique [] = true
are_unique (l ∷ callers) = not (has_token l.token callers) && are_unique callers

-- Who has the token.
abbrev pub caller_of : List ℕ → List Credential → Option Caller
caller_of token [] = None
caller_of token (l ∷ callers) = if bytes_eq token l.token then Some l.caller else caller_of token callers

-- The text is a document with these callers.
abbrev pub HasCallers : List ℕ → List Credential → Type 0
HasCallers text callers = IsListOf caller_key caller_keys IsCaller text callers

-- what a refusal of a document is for the callers
abbrev pub callers_error : ReadError → CallersError
callers_error ReadErrors.Syntax = Syntax
callers_error ReadErrors.UnknownKey = UnknownKey
callers_error ReadErrors.BadValue = BadValue
callers_error ReadErrors.NoMemory = NoMemory

-- What reading callers gives: them, or the first refusal that holds of the whole document.
abbrev pub ReadsCallers : List ℕ → Result (List Credential) CallersError → Type 0
-- a document of callers in which no token occurs twice
ReadsCallers text (Ok callers) = HasCallers text callers × (are_unique callers ≡ true)
-- no TOML document
ReadsCallers text (Err Syntax) = IsRefused caller_key caller_keys IsCaller text ReadErrors.Syntax
-- a document with a key other than these
ReadsCallers text (Err UnknownKey) = IsRefused caller_key caller_keys IsCaller text ReadErrors.UnknownKey
-- of these keys alone, but the array is no list of callers: a value that its key may not have, or a key that is missing
ReadsCallers text (Err BadValue) = IsRefused caller_key caller_keys IsCaller text ReadErrors.BadValue
-- a document of callers, but a token occurs twice
ReadsCallers text (Err DuplicateToken) =
    (callers : List Credential) × HasCallers text callers × (are_unique callers ≡ false)
-- memory was refused, which says nothing of the text
ReadsCallers text (Err NoMemory) = Unit {0}
