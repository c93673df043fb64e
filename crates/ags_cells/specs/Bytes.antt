-- The bytes that cells are written in: those that a reader looks for, by name, and the digits. They are ASCII (Rule 1).
use Rattle.std.specs.Prelude.{ℕ, ◌+◌}

abbrev pub plus_sign : ℕ
plus_sign = 43

abbrev pub hyphen : ℕ
hyphen = 45

abbrev pub decimal_point : ℕ
decimal_point = 46

abbrev pub colon : ℕ
colon = 58

abbrev pub capital_e : ℕ
capital_e = 69

abbrev pub small_e : ℕ
small_e = 101

-- separates a day from its time
abbrev pub capital_t : ℕ
capital_t = 84

-- the digit of a number from 0 to 9: `0` is 48 and `9` is 57
abbrev pub digit : ℕ → ℕ
digit n = 48 + n
