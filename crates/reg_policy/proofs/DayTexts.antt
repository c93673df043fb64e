-- A day's text is ASCII, and a day has one.
use Rattle.std.proofs.Common.{lit<, ◌≡◌, ℕ, ℤ, pos, ◌+◌, ◌/◌, ◌%◌, ◌<◌, List, [], ◌∷◌, ◌++◌, sym, ap, ◌∙◌, subst, arith, ⊎_elim}
use Rattle.std.specs.Prelude.{IsUtf8}
use Rattle.std.specs.List.{All}
use Rattle.std.proofs.lemmas.Bool.{cases_lt}
use Rattle.std.proofs.lemmas.Int.{ints}
use Rattle.std.proofs.lemmas.List.Elements.{All-nil, All-cons}
use Rattle.std.proofs.lemmas.Str.{IsUtf8-from_ascii}
use Rattle.std.proofs.lemmas.Str.Ascii.{IsAscii-from_all}
use Rattle.jiff.specs.Words.{IsDate}
use Rattle.jiff_core.specs.Calendar.{IsCivilDate, day_count, days_from_civil}
use Rattle.jiff_core.proofs.CalendarLemmas.{day_count-day, day_count-lt_month, day_count-lt_year, days_from_civil-day_count}
use Rattle.ags_text.specs.Bytes.{ascii_end, zero_digit}
use Rattle.reg_policy.specs.Names.{hyphen}
use Rattle.reg_policy.proofs.Days.{small_parts}
use Rattle.reg_policy.specs.Days.{OneTextOfDay, Writes, day_text, two_digit_text}

abbrev IsAsciiByte : ℕ → Type 0
IsAsciiByte b = b < ascii_end

dash_is_ascii : IsAsciiByte hyphen
dash_is_ascii = lit< tt

-- two digits before ASCII are ASCII
digits_are_ascii : (n : ℕ) (rest : List ℕ) → n < 100 → All IsAsciiByte rest → All IsAsciiByte ((zero_digit + n / 10) ∷ (zero_digit + n % 10) ∷ rest)
digits_are_ascii n rest small more =
    let tens : zero_digit + n / 10 < ascii_end = omega arith in
    let ones : zero_digit + n % 10 < ascii_end = omega arith in
    All-cons IsAsciiByte (zero_digit + n / 10) ((zero_digit + n % 10) ∷ rest) tens
    (All-cons IsAsciiByte (zero_digit + n % 10) rest ones more)

text_is_ascii : (year month day : ℕ) → year < 10000 → month < 100 → day < 100 → All IsAsciiByte (day_text year month day)
text_is_ascii year month day small_year small_month small_day =
    let last : All IsAsciiByte (hyphen ∷ two_digit_text day) =
    All-cons IsAsciiByte hyphen (two_digit_text day) dash_is_ascii (digits_are_ascii day [] small_day (All-nil IsAsciiByte)) in
    let later : All IsAsciiByte (hyphen ∷ two_digit_text month ++ hyphen ∷ two_digit_text day) =
    All-cons IsAsciiByte hyphen (two_digit_text month ++ hyphen ∷ two_digit_text day) dash_is_ascii (digits_are_ascii month (hyphen ∷ two_digit_text day) small_month last) in
    digits_are_ascii (year / 100) (two_digit_text (year % 100) ++ hyphen ∷ two_digit_text month ++ hyphen ∷ two_digit_text day) (omega arith)
    (digits_are_ascii (year % 100) (hyphen ∷ two_digit_text month ++ hyphen ∷ two_digit_text day) (omega arith) later)

-- what writes a day is text
pub Writes-utf8 : (text : List ℕ) (n : ℤ) → Writes text n → IsUtf8 text
Writes-utf8 text n (year, month, day, (small_year, (date, number)), is) =
    let (small_month, small_day) = small_parts year month day date in
    subst IsUtf8 (sym is) (IsUtf8-from_ascii (day_text year month day)
    (IsAscii-from_all (day_text year month day) (text_is_ascii year month day small_year small_month small_day)))

civil_date : (year month day : ℕ) → IsDate (pos year) (pos month) (pos day) → IsCivilDate (pos year) month day
civil_date year month day date =
    (date.0, (omega (arith, ints, date.1), omega (arith, ints, date.1)), (omega (arith, ints, date.2), omega (arith, ints, date.2)))

squeeze : (a b : ℕ) → (a < b → ⊥) → (b < a → ⊥) → a ≡ b
squeeze a b not_below not_above =
    ⊎_elim (λ lt. absurd (not_below lt)) (λ ge. ⊎_elim (λ lt. absurd (not_above lt)) (λ le. omega arith) (cases_lt b a)) (cases_lt a b)

-- a day number is that of one date
one_date : (y m d y2 m2 d2 : ℕ) → IsCivilDate (pos y) m d → IsCivilDate (pos y2) m2 d2 → days_from_civil (pos y) m d ≡ days_from_civil (pos y2) m2 d2
    → (y ≡ y2) × (m ≡ m2) × (d ≡ d2)
one_date y m d y2 m2 d2 one other e =
    let first = rw e at (days_from_civil-day_count (pos y) m d) in
    let count : day_count (pos y) m d ≡ day_count (pos y2) m2 d2 = omega (arith, first, days_from_civil-day_count (pos y2) m2 d2) in
    let year : y ≡ y2 = squeeze y y2
    (λ lt. omega (arith, day_count-lt_year (pos y) m d (pos y2) m2 d2 one other.2.0 (omega (arith, ints)), count))
    (λ lt. omega (arith, day_count-lt_year (pos y2) m2 d2 (pos y) m d other one.2.0 (omega (arith, ints)), count)) in
    let same_year : IsCivilDate (pos y) m2 d2 = subst (λ (k : ℕ). IsCivilDate (pos k) m2 d2) (sym year) other in
    let in_year : day_count (pos y) m d ≡ day_count (pos y) m2 d2 = count ∙ ap (λ k. day_count (pos k) m2 d2) (sym year) in
    let month : m ≡ m2 = squeeze m m2
    (λ lt. omega (arith, day_count-lt_month (pos y) m d m2 d2 one same_year.2.0 lt, in_year))
    (λ lt. omega (arith, day_count-lt_month (pos y) m2 d2 m d same_year one.2.0 lt, in_year)) in
    let in_month : day_count (pos y) m d ≡ day_count (pos y) m d2 = in_year ∙ ap (λ k. day_count (pos y) k d2) (sym month) in
    (year, month, omega (arith, day_count-day (pos y) m d d2 one.2.0 same_year.2.0, in_month))

pub one_text_of_day : OneTextOfDay
one_text_of_day text other n one two =
    let same = one_date one.0 one.1 one.2 two.0 two.1 two.2 (civil_date one.0 one.1 one.2 one.3.1.0) (civil_date two.0 two.1 two.2 two.3.1.0) (one.3.1.1 ∙ sym two.3.1.1) in
    one.4 ∙ ap (λ k. day_text k one.1 one.2) same.0 ∙ ap (λ k. day_text two.0 k one.2) same.1 ∙ ap (λ k. day_text two.0 two.1 k) same.2 ∙ sym two.4
