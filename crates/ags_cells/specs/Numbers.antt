-- How numbers and angles are written (Rule 8). The standard leaves the spelling open: this is the profile's.
use Rattle.std.specs.Prelude.{◌≡◌, ◌⊎◌, ℕ, ◌<◌, List, [], codes}
use Rattle.ags_cells.specs.Parts.{◌⨾◌, Optional, OneByteOf, Sign, Digits, DigitsOf, TwoDigits}

-- for n above 0 a point and exactly n digits, and nothing for n = 0
abbrev pub PlacesAfterPoint : ℕ → List ℕ → Type 0
PlacesAfterPoint n text = ((n ≡ 0) × (text ≡ [])) ⊎ ((0 < n) × (OneByteOf (codes ".") ⨾ DigitsOf n n) text)

-- optionally a point and digits
abbrev pub Fraction : List ℕ → Type 0
Fraction = Optional (OneByteOf (codes ".") ⨾ Digits)

-- `E` or `e`, optionally a sign, 1 to 3 digits
abbrev pub Exponent : List ℕ → Type 0
Exponent = OneByteOf (codes "Ee") ⨾ Optional Sign ⨾ DigitsOf 1 3

-- nDP: optionally a sign, digits, n places
abbrev pub Decimal : ℕ → List ℕ → Type 0
Decimal n = Optional Sign ⨾ Digits ⨾ PlacesAfterPoint n

-- nSF: optionally a sign, digits, optionally a point and digits, optionally an exponent. How many figures there are
-- plays no part
abbrev pub Significant : List ℕ → Type 0
Significant = Optional Sign ⨾ Digits ⨾ Fraction ⨾ Optional Exponent

-- nSCI: optionally a sign, one digit, n places, an exponent
abbrev pub Scientific : ℕ → List ℕ → Type 0
Scientific n = Optional Sign ⨾ DigitsOf 1 1 ⨾ PlacesAfterPoint n ⨾ Exponent

-- MC: optionally a sign, digits, optionally a point and digits
abbrev pub Moisture : List ℕ → Type 0
Moisture = Optional Sign ⨾ Digits ⨾ Fraction

-- `:00` to `:59`
abbrev pub MinutesOrSeconds : List ℕ → Type 0
MinutesOrSeconds = OneByteOf (codes ":") ⨾ TwoDigits 0 59

-- DMS: optionally a sign, 1 to 3 digits, minutes, seconds, optionally a point and digits
abbrev pub Angle : List ℕ → Type 0
Angle = Optional Sign ⨾ DigitsOf 1 3 ⨾ MinutesOrSeconds ⨾ MinutesOrSeconds ⨾ Fraction
