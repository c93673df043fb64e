-- Days by their numbers, counted from 1970-01-01, and by their texts.
use Rattle.std.specs.Prelude.{◌≡◌, ℕ, ◌+◌, ◌-◌, ◌*◌, ◌/◌, ◌%◌, ◌<◌, nat_lt, nat_le, List, [], ◌∷◌, ◌++◌, take, drop, Bool, ◌&&◌, if◌then◌else◌, Option, Some, None, ℤ, pos, int_le}
use Rattle.std.specs.List.{fold}
use Rattle.std.specs.Str.{bytes_eq}
use Rattle.jiff.specs.Words.{IsDate, days_in_month}
use Rattle.jiff_core.specs.Calendar.{days_from_civil}
use Rattle.ags_text.specs.Bytes.{zero_digit}
use Rattle.reg_policy.specs.Names.{hyphen}

-- A day number: 0 is 1970-01-01, the last is 9999-12-31.
abbrev pub is_day_number : ℤ → Bool
is_day_number n = int_le (pos 0) n && int_le n (pos 2_932_896)

-- the two digits of a number below 100
abbrev pub two_digit_text : ℕ → List ℕ
two_digit_text n = (zero_digit + n / 10) ∷ (zero_digit + n % 10) ∷ []

-- the four digits of a year
abbrev pub year_text : ℕ → List ℕ
year_text n = two_digit_text (n / 100) ++ two_digit_text (n % 100)

-- `yyyy-mm-dd`
abbrev pub day_text : ℕ → ℕ → ℕ → List ℕ
day_text year month day = year_text year ++ hyphen ∷ two_digit_text month ++ hyphen ∷ two_digit_text day

-- the calendar has the date, and gives it that number
abbrev pub IsDateOf : ℕ → ℕ → ℕ → ℤ → Type 0
IsDateOf year month day n = IsDate (pos year) (pos month) (pos day) × (days_from_civil (pos year) month day ≡ n)

-- and its year has four digits
abbrev pub HasDate : ℕ → ℕ → ℕ → ℤ → Type 0
HasDate year month day n = (year < 10000) × IsDateOf year month day n

-- the text has these digits, whether the calendar has the date or not
abbrev pub IsWritten : ℕ → ℕ → ℕ → List ℕ → Type 0
IsWritten year month day text = (year < 10000) × (month < 100) × (day < 100) × (text ≡ day_text year month day)

-- The text writes a date of the calendar as `yyyy-mm-dd`, and the date has that number.
abbrev pub Writes : List ℕ → ℤ → Type 0
Writes text n = (year : ℕ) × (month : ℕ) × (day : ℕ) × HasDate year month day n × (text ≡ day_text year month day)

-- the number that digits write
abbrev pub number_in : List ℕ → ℕ
number_in digits = fold (λ n c. 10 * n + (c - zero_digit)) 0 digits

-- the calendar has the date
abbrev pub is_date : ℕ → ℕ → ℕ → Bool
is_date year month day =
    nat_lt year 10000 && nat_le 1 month && nat_le month 12 && nat_le 1 day
    && nat_le day (days_in_month (pos year) month)

-- the day number of a date, where it has one
abbrev pub day_number_of : ℕ → ℕ → ℕ → Option ℤ
day_number_of year month day =
    let number = days_from_civil (pos year) month day in
    if is_date year month day && is_day_number number then Some number else None

-- The day of a text: it is the text that the date which it writes would have.
abbrev pub day_of : List ℕ → Option ℤ
day_of text =
    let year = number_in (take 4 text) in
    let month = number_in (take 2 (drop 5 text)) in
    let day = number_in (take 2 (drop 8 text)) in
    if bytes_eq text (day_text year month day) then day_number_of year month day else None

-- A day has one text at most.
abbrev pub OneTextOfDay : Type 0
OneTextOfDay = (text other : List ℕ) (n : ℤ) → Writes text n → Writes other n → text ≡ other
