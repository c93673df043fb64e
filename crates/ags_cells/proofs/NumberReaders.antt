-- What the readers of numbers and angles take off a text.
use Rattle.std.proofs.Common.{◌≡◌, ℕ, Bool, true, false, List, [], ◌++◌, codes, Some, refl, inl, inr, append_assoc, arith}
use Rattle.std.proofs.lemmas.Bool.Decides.{nat_tests}
use Rattle.std.specs.Char.{is_ascii_digit}
use Rattle.ags_cells.specs.Bytes.{decimal_point, colon, capital_e, small_e}
use Rattle.ags_cells.specs.Parts.{◌⨾◌, Optional, OneByteOf, Digits, DigitsOf, Sign, TwoDigits}
use Rattle.ags_cells.specs.Numbers.{PlacesAfterPoint, Fraction, Exponent, MinutesOrSeconds}
use Rattle.ags_cells.specs.Readers.{◌>>=◌, if_any, after_sign, after_digits, after_some_digits, after_fraction, after_places, after_exponent, after_sixtieth, after_decimal, after_moisture, after_significant, after_scientific, after_angle}
use Rattle.ags_cells.proofs.Strips.{Strips, NotFirst, Nothing, is_sign, seq, sign}
use Rattle.ags_cells.proofs.PartReaders.{Leads, Passes, leads_mark, leads_seq, passes_optional, leads_digits, is_digit_or_point, not_digit, digits, some_digits, fraction, places, exponent_byte, exponent, any, sixtieth}

not_sign : (c : ℕ) → is_ascii_digit c ≡ true → is_sign c ≡ false
not_sign c d = grind (arith, nat_tests)

leads_exponent : (p : ℕ → Bool) → p capital_e ≡ false → p small_e ≡ false → Leads p Exponent
leads_exponent p e f = leads_seq p (OneByteOf (codes "Ee")) _
    (λ a r m. elim (exponent_byte m.0 m.1) [ inl x ↦ rw (m.2, x) e | inr x ↦ rw (m.2, x) f ])

passes_fraction : (p : ℕ → Bool) → p decimal_point ≡ false → Passes p Fraction
passes_fraction p e = passes_optional p _ (leads_seq p (OneByteOf (codes ".")) Digits (leads_mark p decimal_point e))

passes_places : (p : ℕ → Bool) → p decimal_point ≡ false → (n : ℕ) → Passes p (PlacesAfterPoint n)
passes_places p e n a r (inl x) stop = rw x.1 stop
passes_places p e n a r (inr x) stop = leads_seq p (OneByteOf (codes ".")) (DigitsOf n n) (leads_mark p decimal_point e) a r x.1

-- digits come first, and no sign
signless : (Q : List ℕ → Type 0) → Leads is_sign (Digits ⨾ Q)
signless Q = leads_seq is_sign Digits Q (λ a r d. leads_digits is_sign not_sign a r d.0 d.1)

signless_of : (high : ℕ) (Q : List ℕ → Type 0) → Leads is_sign (DigitsOf 1 high ⨾ Q)
signless_of high Q = leads_seq is_sign (DigitsOf 1 high) Q (λ a r d. leads_digits is_sign not_sign a r d.0 d.2)

pub decimal : (n : ℕ) → Strips (after_decimal n) (Optional Sign ⨾ Digits ⨾ PlacesAfterPoint n) (NotFirst is_ascii_digit)
unfolding after_decimal
decimal n = seq (λ t. Some (after_sign t)) (λ t. after_some_digits t >>= after_places n) sign
    (seq after_some_digits (after_places n) some_digits (places n) (passes_places is_ascii_digit refl n))
    (λ a r q stop. signless (PlacesAfterPoint n) a r q)

pub moisture : Strips after_moisture (Optional Sign ⨾ Digits ⨾ Fraction) (NotFirst is_digit_or_point)
unfolding after_moisture
moisture = seq (λ t. Some (after_sign t)) (λ t. after_some_digits t >>= after_fraction) sign
    (seq after_some_digits after_fraction some_digits fraction
    (λ a r q stop. passes_fraction is_ascii_digit refl a r q (not_digit r stop)))
    (λ a r q stop. signless Fraction a r q)

-- at the end of the text
passes_end : (p : ℕ → Bool) (P : List ℕ → Type 0) → Passes p P → (a r : List ℕ) → P a → r ≡ [] → NotFirst p (a ++ r)
passes_end p P h a r w e = h a r w (rw e tt)

passes_seq : (p : ℕ → Bool) (P Q : List ℕ → Type 0) → Passes p P → Passes p Q → Passes p (P ⨾ Q)
passes_seq p P Q h k c r (a, b, split, pa, qb) stop = rw (split, append_assoc a b r) (h a (b ++ r) pa (k b r qb stop))

passes_exponent : (p : ℕ → Bool) → p capital_e ≡ false → p small_e ≡ false → Passes p (Optional Exponent)
passes_exponent p e f = passes_optional p Exponent (leads_exponent p e f)

pub significant : Strips after_significant (Optional Sign ⨾ Digits ⨾ Fraction ⨾ Optional Exponent) Nothing
unfolding after_significant
significant = seq (λ t. Some (after_sign t)) (λ t. after_some_digits t >>= (λ u. after_fraction u >>= if_any after_exponent)) sign
    (seq after_some_digits (λ u. after_fraction u >>= if_any after_exponent) some_digits
    (seq after_fraction (if_any after_exponent) fraction (any after_exponent exponent tt)
    (λ a r q stop. passes_end is_digit_or_point _ (passes_exponent is_digit_or_point refl refl) a r q stop))
    (λ a r q stop. passes_end is_ascii_digit _ (passes_seq is_ascii_digit Fraction _ (passes_fraction is_ascii_digit refl) (passes_exponent is_ascii_digit refl refl)) a r q stop))
    (λ a r q stop. signless _ a r q)

pub scientific : (n : ℕ) → Strips (after_scientific n) (Optional Sign ⨾ DigitsOf 1 1 ⨾ PlacesAfterPoint n ⨾ Exponent) (NotFirst is_ascii_digit)
unfolding after_scientific
scientific n = seq (λ t. Some (after_sign t)) (λ t. after_digits 1 1 t >>= (λ u. after_places n u >>= after_exponent)) sign
    (seq (after_digits 1 1) (λ u. after_places n u >>= after_exponent) (digits 1 1)
    (seq (after_places n) after_exponent (places n) exponent
    (λ a r q stop. leads_exponent is_ascii_digit refl refl a r q))
    (λ a r q stop. passes_seq is_ascii_digit (PlacesAfterPoint n) Exponent (passes_places is_ascii_digit refl n) (λ b s w _. leads_exponent is_ascii_digit refl refl b s w) a r q stop))
    (λ a r q stop. signless_of 1 _ a r q)

pub leads_sixtieth : (Q : List ℕ → Type 0) → Leads is_ascii_digit (MinutesOrSeconds ⨾ Q)
leads_sixtieth Q = leads_seq is_ascii_digit MinutesOrSeconds Q (leads_seq is_ascii_digit (OneByteOf (codes ":")) (TwoDigits 0 59) (leads_mark is_ascii_digit colon refl))

pub angle : Strips after_angle (Optional Sign ⨾ DigitsOf 1 3 ⨾ MinutesOrSeconds ⨾ MinutesOrSeconds ⨾ Fraction) (NotFirst is_digit_or_point)
unfolding after_angle
angle = seq (λ t. Some (after_sign t)) (λ t. after_digits 1 3 t >>= (λ m. after_sixtieth m >>= (λ s. after_sixtieth s >>= after_fraction))) sign
    (seq (after_digits 1 3) (λ m. after_sixtieth m >>= (λ s. after_sixtieth s >>= after_fraction)) (digits 1 3)
    (seq after_sixtieth (λ s. after_sixtieth s >>= after_fraction) sixtieth
    (seq after_sixtieth after_fraction sixtieth fraction (λ a r q stop. tt))
    (λ a r q stop. tt))
    (λ a r q stop. leads_sixtieth _ a r q))
    (λ a r q stop. signless_of 3 _ a r q)

pub leads_minutes : Leads is_ascii_digit MinutesOrSeconds
leads_minutes = leads_seq is_ascii_digit (OneByteOf (codes ":")) (TwoDigits 0 59) (leads_mark is_ascii_digit colon refl)
