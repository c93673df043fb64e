-- What each private reader leaves of a text. The contracts of the readers cite this file. The promise of `fits` does
-- not: it is stated by Fits.antt alone, and proofs/ shows that what the readers do is what it says.
use Rattle.std.specs.Prelude.{ℕ, ◌+◌, ◌-◌, ◌*◌, Bool, true, false, ◌&&◌, ◌||◌, ◌==◌, nat_le, if◌then◌else◌, List, [], ◌∷◌, length, Option, Some, None, drop, pos}
use Rattle.std.specs.List.{prefix_len}
use Rattle.std.specs.Char.{is_ascii_digit}
use Rattle.jiff.specs.Words.{days_in_month}
use Rattle.ags_cells.specs.Bytes.{plus_sign, hyphen, decimal_point, colon, capital_e, small_e, capital_t, digit}
use Rattle.ags_cells.specs.declared.time_unit.TimeUnit.{TimeUnit}
use Rattle.ags_cells.specs.declared.time_unit.TimeUnit.TheVariants as Units

infixl 10 ◌>>=◌
-- one step after another, where each may fail
abbrev pub ◌>>=◌ : {A B : Type 0} → Option A → (A → Option B) → Option B
None >>= next = None
Some x >>= next = next x

-- what the rest passes, if there is one
abbrev pub then_rest : Option (List ℕ) → (List ℕ → Bool) → Bool
then_rest None test = false
then_rest (Some rest) test = test rest

abbrev pub is_empty : List ℕ → Bool
is_empty [] = true
is_empty (byte ∷ bytes) = false

-- what a reader leaves of a text that is not empty
abbrev pub if_any : (List ℕ → Option (List ℕ)) → List ℕ → Option (List ℕ)
if_any reader [] = Some []
if_any reader (byte ∷ rest) = reader (byte ∷ rest)

unfoldable pub after_sign : List ℕ → List ℕ
after_sign [] = []
after_sign (byte ∷ rest) = if (byte == plus_sign) || (byte == hyphen) then rest else byte ∷ rest

unfoldable pub after_mark : ℕ → List ℕ → Option (List ℕ)
after_mark mark [] = None
after_mark mark (byte ∷ rest) = if byte == mark then Some rest else None

unfoldable pub after_digits : ℕ → ℕ → List ℕ → Option (List ℕ)
after_digits low high text =
    if nat_le low (prefix_len is_ascii_digit text) && nat_le (prefix_len is_ascii_digit text) high
    then Some (drop (prefix_len is_ascii_digit text) text)
    else None

unfoldable pub after_some_digits : List ℕ → Option (List ℕ)
after_some_digits text = after_digits 1 (length text) text

-- after a point and digits, if there is a point
abbrev pub fraction_after : List ℕ → Option (List ℕ) → Option (List ℕ)
fraction_after text None = Some text
fraction_after text (Some rest) = after_some_digits rest

unfoldable pub after_fraction : List ℕ → Option (List ℕ)
after_fraction text = fraction_after text (after_mark decimal_point text)

unfoldable pub after_places : ℕ → List ℕ → Option (List ℕ)
after_places n text = if n == 0 then Some text else (after_mark decimal_point text >>= after_digits n n)

unfoldable pub after_exponent_mark : List ℕ → Option (List ℕ)
after_exponent_mark [] = None
after_exponent_mark (byte ∷ rest) = if (byte == capital_e) || (byte == small_e) then Some rest else None

unfoldable pub after_exponent : List ℕ → Option (List ℕ)
after_exponent text = do
  digits ← after_exponent_mark text
  after_digits 1 3 (after_sign digits)

-- the number that two digits write, and the text after them
unfoldable pub read_two : List ℕ → Option (ℕ × List ℕ)
read_two [] = None
read_two (tens ∷ []) = None
read_two (tens ∷ ones ∷ rest) =
    if is_ascii_digit tens && is_ascii_digit ones then Some (10 * (tens - digit 0) + (ones - digit 0), rest) else None

-- after two digits of a number from `low` to `high`
unfoldable pub after_two_digits : ℕ → ℕ → List ℕ → Option (List ℕ)
after_two_digits low high text = do
  n ← read_two text
  if nat_le low n.0 && nat_le n.0 high then Some n.1 else None

unfoldable pub after_decimal : ℕ → List ℕ → Option (List ℕ)
after_decimal n text = after_some_digits (after_sign text) >>= after_places n

unfoldable pub after_moisture : List ℕ → Option (List ℕ)
after_moisture text = after_some_digits (after_sign text) >>= after_fraction

unfoldable pub after_significant : List ℕ → Option (List ℕ)
after_significant text = do
  fraction ← after_some_digits (after_sign text)
  exponent ← after_fraction fraction
  if_any after_exponent exponent

unfoldable pub after_scientific : ℕ → List ℕ → Option (List ℕ)
after_scientific n text = do
  places ← after_digits 1 1 (after_sign text)
  exponent ← after_places n places
  after_exponent exponent

unfoldable pub after_sixtieth : List ℕ → Option (List ℕ)
after_sixtieth text = after_mark colon text >>= after_two_digits 0 59

unfoldable pub after_angle : List ℕ → Option (List ℕ)
after_angle text = do
  minutes ← after_digits 1 3 (after_sign text)
  seconds ← after_sixtieth minutes
  fraction ← after_sixtieth seconds
  after_fraction fraction

unfoldable pub after_month : List ℕ → Option (List ℕ)
after_month text = do
  rest ← after_digits 4 4 text
  month ← after_mark hyphen rest
  after_two_digits 1 12 month

-- the calendar has the day
abbrev pub has_day : ℕ → ℕ → ℕ → Bool
has_day year month day =
    (nat_le 1 month && nat_le month 12) && (nat_le 1 day && nat_le day (days_in_month (pos year) month))

unfoldable pub after_day : List ℕ → Option (List ℕ)
after_day text = do
  century ← read_two text
  year ← read_two century.1
  months ← after_mark hyphen year.1
  month ← read_two months
  days ← after_mark hyphen month.1
  day ← read_two days
  if has_day (100 * century.0 + year.0) month.0 day.0 then Some day.1 else None

unfoldable pub after_clock_minutes : List ℕ → Option (List ℕ)
after_clock_minutes text = after_two_digits 0 23 text >>= after_sixtieth

unfoldable pub after_clock_seconds : List ℕ → Option (List ℕ)
after_clock_seconds text = do
  minutes ← after_two_digits 0 23 text
  seconds ← after_sixtieth minutes
  after_sixtieth seconds

unfoldable pub after_elapsed_minutes : List ℕ → Option (List ℕ)
after_elapsed_minutes text = after_digits 2 4 text >>= after_sixtieth

unfoldable pub after_elapsed_seconds : List ℕ → Option (List ℕ)
after_elapsed_seconds text = do
  minutes ← after_digits 2 4 text
  seconds ← after_sixtieth minutes
  after_sixtieth seconds

-- after `T` and a time of day
unfoldable pub after_time_minutes : List ℕ → Option (List ℕ)
after_time_minutes text = after_mark capital_t text >>= after_clock_minutes

unfoldable pub after_time_seconds : List ℕ → Option (List ℕ)
after_time_seconds text = after_mark capital_t text >>= after_clock_seconds

unfoldable pub after_day_minutes : List ℕ → Option (List ℕ)
after_day_minutes text = after_day text >>= if_any after_time_minutes

unfoldable pub after_day_seconds : List ℕ → Option (List ℕ)
after_day_seconds text = after_day text >>= if_any after_time_seconds

-- the reader reaches the end
abbrev pub is_whole : Option (List ℕ) → Bool
is_whole rest = then_rest rest is_empty

-- the text fits a unit with a date
abbrev pub fits_dated : TimeUnit → List ℕ → Bool
fits_dated Units.Year text = is_whole (after_digits 4 4 text)
fits_dated Units.Month text = is_whole (after_month text)
fits_dated Units.Day text = is_whole (after_day text)
fits_dated Units.DayMinutes text = is_whole (after_day_minutes text)
fits_dated Units.DaySeconds text = is_whole (after_day_seconds text)
fits_dated _ text = true
