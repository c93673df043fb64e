-- The number of a deposit.
use Rattle.std.specs.Prelude.{ℕ, Bool, false, ◌&&◌, not, ◌==◌, List, [], ◌∷◌, Option, Some, None, if◌then◌else◌}
use Rattle.std.specs.List.{list_all}
use Rattle.std.specs.Char.{is_ascii_digit}
use Rattle.ags_text.specs.Bytes.{zero_digit}
use Rattle.ags_text.specs.Names.{is_within}
use Rattle.reg_policy.specs.Days.{number_in}

-- digits, at least one and at most so many
abbrev pub is_number : ℕ → List ℕ → Bool
is_number most text = is_within most text && list_all is_ascii_digit text

abbrev pub begins_with_zero : List ℕ → Bool
begins_with_zero [] = false
begins_with_zero (b ∷ text) = b == zero_digit

-- the number of a deposit: 1 to 6 digits, the first of them no zero
abbrev pub deposit_number : List ℕ → Option ℕ
deposit_number text = if is_number 6 text && not (begins_with_zero text) then Some (number_in text) else None
