-- Sets of texts, and the parts that the texts of a cell are joined from. A set is a fact about a text.
use Rattle.std.specs.Prelude.{◌≡◌, ◌⊎◌, ℕ, ◌/◌, ◌%◌, ◌≤◌, IsTrue, List, [], ◌∷◌, ◌++◌, length, codes}
use Rattle.std.specs.Char.{char_set_contains}
use Rattle.std.specs.Str.{all_ascii_digits}
use Rattle.ags_cells.specs.Bytes.{digit}

infixr 20 ◌⨾◌
-- a text of P and, right after it, one of Q
abbrev pub ◌⨾◌ : (List ℕ → Type 0) → (List ℕ → Type 0) → List ℕ → Type 0
(P ⨾ Q) text = (front : List ℕ) × (back : List ℕ) × (text ≡ front ++ back) × P front × Q back

-- nothing, or a text of P
abbrev pub Optional : (List ℕ → Type 0) → List ℕ → Type 0
Optional P text = (text ≡ []) ⊎ P text

-- one of those bytes, alone
abbrev pub OneByteOf : List ℕ → List ℕ → Type 0
OneByteOf bytes text = (byte : ℕ) × IsTrue (char_set_contains bytes byte) × (text ≡ byte ∷ [])

-- `+` or `-`
abbrev pub Sign : List ℕ → Type 0
Sign = OneByteOf (codes "+-")

-- one digit or more
abbrev pub Digits : List ℕ → Type 0
Digits text = (1 ≤ length text) × IsTrue (all_ascii_digits text)

-- at least `low` digits and at most `high`
abbrev pub DigitsOf : ℕ → ℕ → List ℕ → Type 0
DigitsOf low high text = (low ≤ length text) × (length text ≤ high) × IsTrue (all_ascii_digits text)

-- a number below 100 in two digits
abbrev pub two_digits : ℕ → List ℕ
two_digits n = digit (n / 10) ∷ digit (n % 10) ∷ []

-- a number in two digits, at least `low` and at most `high`
abbrev pub TwoDigits : ℕ → ℕ → List ℕ → Type 0
TwoDigits low high text = (n : ℕ) × (low ≤ n) × (n ≤ high) × (text ≡ two_digits n)
