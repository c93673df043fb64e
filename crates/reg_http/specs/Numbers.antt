-- The length of a body.
use Rattle.std.specs.Prelude.{ℕ, nat_le, List, Result, Ok, Err, if◌then◌else◌}
use Rattle.ags_rows.specs.declared.TheConstants.{LIMIT}
use Rattle.reg_policy.specs.Days.{number_in}
use Rattle.reg_request.specs.Numbers.{is_number}
use Rattle.reg_http.specs.Fields.{Few, none, one, many}
use Rattle.reg_http.specs.declared.error.Refusal.{Refusal}
use Rattle.reg_http.specs.declared.error.Refusal.TheVariants.{LengthRequired, BadLength, TooLarge}

-- a length of 1 to 10 digits, up to the limit of a deposit
abbrev pub length_by : List ℕ → Result ℕ Refusal
length_by value =
    if is_number 10 value
    then (if nat_le (number_in value) LIMIT then Ok (number_in value) else Err TooLarge)
    else Err BadLength

-- the length by the fields Transfer-Encoding and Content-Length: no coding, and one length
abbrev pub length_in : Few → Few → Result ℕ Refusal
length_in none none = Err LengthRequired
length_in none (one value) = length_by value
length_in none many = Err BadLength
length_in (one coding) lengths = Err LengthRequired
length_in many lengths = Err LengthRequired
