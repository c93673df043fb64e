-- What the parameters of path and query ask.
use Rattle.std.specs.Prelude.{ℕ, ℤ, List, [], ◌∷◌, Option, Some, None, Result, Ok, Err, codes, ok_or, if◌then◌else◌}
use Rattle.std.specs.Str.{bytes_eq}
use Rattle.std.specs.Str.Lossy.{utf8_lossy}
use Rattle.form_urlencoded.specs.Form.{decode}
use Rattle.reg_policy.specs.Names.{is_name}
use Rattle.reg_policy.specs.Days.{day_of}
use Rattle.reg_policy.specs.declared.subject.Verb.{Verb}
use Rattle.reg_policy.specs.declared.subject.Verb.TheVariants as verbs
use Rattle.reg_request.specs.Asks.{Sought, deposit, check, listing, extract, withdraw}
use Rattle.reg_request.specs.Groups.{are_group_names, groups_in}
use Rattle.reg_request.specs.Numbers.{deposit_number}
use Rattle.reg_http.specs.Agree.{and_then}
use Rattle.reg_http.specs.declared.error.Refusal.{Refusal}
use Rattle.reg_http.specs.declared.error.Refusal.TheVariants.{BadParameter, Method}

-- what an encoded name or value is read as: `+` and percent escapes decoded
abbrev pub decoded : List ℕ → List ℕ
decoded encoded = utf8_lossy (decode encoded)

-- the value of a parameter that has to be the one of this name
abbrev pub value_in : List ℕ → List ℕ → List ℕ → Result (List ℕ) Refusal
value_in key value name = if bytes_eq (decoded key) name then Ok (decoded value) else Err BadParameter

-- The value of the parameter of this name, if it is given: of the pairs there is none, or the one of this name.
abbrev pub value_of : List ℕ → List (List ℕ × List ℕ) → Result (Option (List ℕ)) Refusal
value_of name [] = Ok None
value_of name (pair ∷ []) = if bytes_eq (decoded pair.0) name then Ok (Some (decoded pair.1)) else Err BadParameter
value_of name (pair ∷ other ∷ pairs) = Err BadParameter

abbrev pub embargo_by : Option ℤ → Result Sought Refusal
embargo_by None = Err BadParameter
embargo_by (Some day) = Ok (deposit day)

-- the embargo of a deposit, the day of serving where none is given
abbrev pub embargo_in : ℤ → Option (List ℕ) → Result Sought Refusal
embargo_in day None = Ok (deposit day)
embargo_in day (Some text) = embargo_by (day_of text)

-- the groups of an extract
abbrev pub extract_in : ℕ → Option (List ℕ) → Result Sought Refusal
extract_in number None = Ok (extract number [])
extract_in number (Some text) =
    if are_group_names text then Ok (extract number (groups_in text)) else Err BadParameter

-- what has no parameter
abbrev pub bare : Sought → List (List ℕ × List ℕ) → Result Sought Refusal
bare sought [] = Ok sought
bare sought (pair ∷ pairs) = Err BadParameter

-- the number of a deposit in a path
abbrev pub number_in_path : List ℕ → Result ℕ Refusal
number_in_path number = ok_or (deposit_number number) BadParameter

-- what a request of this verb asks, by the number in its path, the pairs of its query and the day of serving
abbrev pub sought_in : Verb → List ℕ → List (List ℕ × List ℕ) → ℤ → Result Sought Refusal
sought_in verbs.Check number pairs day = bare check pairs
sought_in verbs.Deposit number pairs day = and_then (value_of (codes "embargo") pairs) (embargo_in day)
sought_in verbs.List number pairs day = bare listing pairs
sought_in verbs.Extract number pairs day =
    and_then (number_in_path number) (λ n. and_then (value_of (codes "groups") pairs) (extract_in n))
sought_in verbs.Withdraw number pairs day = and_then (number_in_path number) (λ n. bare (withdraw n) pairs)
sought_in verbs.See number pairs day = Err Method

abbrev pub project_in_path : List ℕ → Result (List ℕ) Refusal
project_in_path text = if is_name text then Ok text else Err BadParameter
