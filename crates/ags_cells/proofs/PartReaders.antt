-- What the readers of digits, fractions, exponents and numbers take off a text.
use Rattle.std.proofs.Common.{◌≡◌, ℕ, ◌+◌, ◌-◌, ◌*◌, ◌/◌, ◌%◌, ◌<◌, ◌≤◌, Bool, true, false, cond, eqb, ◌&&◌, ◌||◌, nat_le, List, [], ◌∷◌, ◌++◌, length, take, drop, Option, Some, None, codes, refl, sym, ap, ◌∙◌, ◌⊎◌, inl, inr, append_assoc, append-nil, length-append, one-add, arith}
use Rattle.std.proofs.lemmas.Bool.{and_parts}
use Rattle.std.proofs.lemmas.Bool.Decides.{eqb_tells, leb_tells, nat_tests}
use Rattle.std.proofs.lemmas.List.{length-take-le, take-append-drop}
use Rattle.std.proofs.lemmas.List.Sums.{prefix_len-le-length}
use Rattle.std.proofs.Math.Seq.{drop-append_seam}
use Rattle.std.specs.List.{prefix_len}
use Rattle.std.specs.Char.{is_ascii_digit, char_set_contains}
use Rattle.std.specs.Str.{all_ascii_digits}
use Rattle.ags_cells.specs.Bytes.{decimal_point, colon, capital_e, small_e, digit}
use Rattle.ags_cells.specs.Parts.{◌⨾◌, Optional, OneByteOf, Digits, DigitsOf, Sign, two_digits, TwoDigits}
use Rattle.ags_cells.specs.Numbers.{PlacesAfterPoint, Fraction, Exponent, MinutesOrSeconds}
use Rattle.ags_cells.specs.Readers.{◌>>=◌, after_sign, after_mark, after_digits, after_some_digits, fraction_after, after_fraction, after_places, after_exponent_mark, after_exponent, if_any, read_two, after_two_digits, after_sixtieth}
use Rattle.ags_cells.proofs.Strips.{Strips, NotFirst, Anything, Nothing, only, is_sign, is_digit_yes, is_digit_tells, seq, sign, mark}

-- each text of P begins with a byte that fails the test; or is empty
abbrev pub Leads : (ℕ → Bool) → (List ℕ → Type 0) → Type 0
Leads p P = (a r : List ℕ) → P a → NotFirst p (a ++ r)

abbrev pub Passes : (ℕ → Bool) → (List ℕ → Type 0) → Type 0
Passes p P = (a r : List ℕ) → P a → NotFirst p r → NotFirst p (a ++ r)

pub leads_mark : (p : ℕ → Bool) (m : ℕ) → p m ≡ false → Leads p (OneByteOf (m ∷ []))
leads_mark p m fails a r (c, is, e) = rw (e, only m c is) fails

pub leads_seq : (p : ℕ → Bool) (P Q : List ℕ → Type 0) → Leads p P → Leads p (P ⨾ Q)
leads_seq p P Q h c r (a, b, split, pa, qb) = rw (split, append_assoc a b r) (h a (b ++ r) pa)

pub passes_optional : (p : ℕ → Bool) (P : List ℕ → Type 0) → Leads p P → Passes p (Optional P)
passes_optional p P h a r (inl e) stop = rw e stop
passes_optional p P h a r (inr w) stop = h a r w

pub leads_digits : (p : ℕ → Bool) → ((c : ℕ) → is_ascii_digit c ≡ true → p c ≡ false) → (a r : List ℕ) → 1 ≤ length a → all_ascii_digits a ≡ true
    → NotFirst p (a ++ r)
leads_digits p h [] r some all = absurd (omega arith)
leads_digits p h (c ∷ cs) r some all = h c (and_parts (is_ascii_digit c) (all_ascii_digits cs) all).0

count : (a r : List ℕ) → all_ascii_digits a ≡ true → NotFirst is_ascii_digit r → prefix_len is_ascii_digit (a ++ r) ≡ length a
count [] [] all stop = refl
count [] (c ∷ cs) all stop = rw stop
count (c ∷ cs) r all stop =
    let (first, rest) = and_parts (is_ascii_digit c) (all_ascii_digits cs) all in
    rw first (omega (arith, count cs r rest stop))

front_from : (c k : ℕ) (cs : List ℕ) (b : Bool) → is_ascii_digit c ≡ b → all_ascii_digits (take k cs) ≡ true
    → all_ascii_digits (take (cond b (1 + k) 0) (c ∷ cs)) ≡ true
front_from c k cs true e h =
    let both : (is_ascii_digit c && all_ascii_digits (take k cs)) ≡ true = rw e h in
    rw one-add both
front_from c k cs false e h = refl

front_digits : (t : List ℕ) → all_ascii_digits (take (prefix_len is_ascii_digit t) t) ≡ true
front_digits [] = refl
front_digits (c ∷ cs) = front_from c (prefix_len is_ascii_digit cs) cs (is_ascii_digit c) refl (front_digits cs)

digits_from : (low high k : ℕ) (t r : List ℕ) → k ≤ length t → all_ascii_digits (take k t) ≡ true → (low ≤ k) × (k ≤ high) → r ≡ drop k t
    → (a : List ℕ) × (t ≡ a ++ r) × DigitsOf low high a
digits_from low high k t r within all fit e =
    let len = length-take-le k t within in
    (take k t, sym (take-append-drop k t) ∙ ap (λ x. take k t ++ x) (sym e), (omega arith, omega arith, all))

digits_sound : (low high : ℕ) (t r : List ℕ) → after_digits low high t ≡ Some r → (a : List ℕ) × (t ≡ a ++ r) × DigitsOf low high a
unfolding after_digits
digits_sound low high t r e =
    let k = prefix_len is_ascii_digit t in
    elim (leb_tells low k) [
      | inr x ↦ let f : None ≡ Some r = rw x.0 at e in cc
      | inl a ↦ elim (leb_tells k high) [
        | inr x ↦ let f : None ≡ Some r = rw (a.0, x.0) at e in cc
        | inl b ↦ let f : Some (drop k t) ≡ Some r = rw (a.0, b.0) at e in
            digits_from low high k t r (prefix_len-le-length is_ascii_digit t) (front_digits t) (a.1, b.1) cc
      ]
    ]

digits_complete : (low high : ℕ) (a r : List ℕ) → DigitsOf low high a → NotFirst is_ascii_digit r → after_digits low high (a ++ r) ≡ Some r
unfolding after_digits
digits_complete low high a r (l, h, all) stop =
    let n = count a r all stop in
    let x : nat_le low (length a) ≡ true = grind (arith, nat_tests) in
    let y : nat_le (length a) high ≡ true = grind (arith, nat_tests) in
    rw (n, x, y, drop-append_seam a r)

pub digits : (low high : ℕ) → Strips (after_digits low high) (DigitsOf low high) (NotFirst is_ascii_digit)
digits low high = record { sound = digits_sound low high; complete = digits_complete low high }

pub some_digits : Strips after_some_digits Digits (NotFirst is_ascii_digit)
unfolding after_some_digits
some_digits = record {
  sound = λ t r e. let (a, ta, w) = digits_sound 1 (length t) t r e in (a, ta, (w.0, w.2));
  complete = λ a r p stop. digits_complete 1 (length (a ++ r)) a r (p.0, omega (arith, length-append a r), p.1) stop;
}

abbrev pub is_digit_or_point : ℕ → Bool
is_digit_or_point c = is_ascii_digit c || eqb c decimal_point

-- a text that begins with no byte of two tests begins with none of either
pub not_digit : (r : List ℕ) → NotFirst is_digit_or_point r → NotFirst is_ascii_digit r
not_digit [] h = tt
not_digit (c ∷ cs) h = grind (arith, nat_tests)

not_point : (r : List ℕ) → NotFirst is_digit_or_point r → after_mark decimal_point r ≡ None
unfolding after_mark
not_point [] h = refl
not_point (c ∷ cs) h = grind (arith, nat_tests)

fraction_sound : (t r : List ℕ) (o : Option (List ℕ)) → after_mark decimal_point t ≡ o → fraction_after t o ≡ Some r → (a : List ℕ) × (t ≡ a ++ r) × Fraction a
fraction_sound t r None e f = let g : t ≡ r = cc in ([], g, inl refl)
fraction_sound t r (Some m) e f =
    let (a, ta, pa) = (mark decimal_point).sound t m e in
    let (b, mb, qb) = some_digits.sound m r f in
    (a ++ b, ta ∙ ap (λ x. a ++ x) mb ∙ sym (append_assoc a b r), inr (a, b, refl, pa, qb))

fraction_complete : (a r : List ℕ) → Fraction a → NotFirst is_digit_or_point r → after_fraction (a ++ r) ≡ Some r
unfolding after_fraction
fraction_complete a r (inl e) stop = rw (e, not_point r stop)
fraction_complete c r (inr (a, b, split, pa, qb)) stop =
    let e : after_mark decimal_point (c ++ r) ≡ Some (b ++ r) =
    ap (after_mark decimal_point) (ap (λ x. x ++ r) split ∙ append_assoc a b r) ∙ (mark decimal_point).complete a (b ++ r) pa tt in
    rw e (some_digits.complete b r qb (not_digit r stop))

pub fraction : Strips after_fraction Fraction (NotFirst is_digit_or_point)
unfolding after_fraction
fraction = record { sound = λ t r e. fraction_sound t r (after_mark decimal_point t) refl e; complete = fraction_complete }

pub places : (n : ℕ) → Strips (after_places n) (PlacesAfterPoint n) (NotFirst is_ascii_digit)
unfolding after_places
places n =
    let decimals = seq (after_mark decimal_point) (after_digits n n) (mark decimal_point) (digits n n) (λ a r q stop. tt) in
    elim (eqb_tells n 0) [
      | inl z ↦ record {
        sound = λ t r e. let f : Some t ≡ Some r = rw z.0 at e in let g : t ≡ r = cc in ([], g, inl (z.1, refl));
        complete = λ a r p stop. elim p [
          | inl w ↦ rw (z.0, w.1)
          | inr w ↦ absurd (omega (arith, z.1, w.0))
        ];
      }
      | inr s ↦ record {
        sound = λ t r e. let (a, ta, pa) = decimals.sound t r (rw s.0 at e) in (a, ta, inr (omega (arith, s.1), pa));
        complete = λ a r p stop. elim p [
          | inl w ↦ absurd (s.1 w.0)
          | inr w ↦ rw s.0 (decimals.complete a r w.1 stop)
        ];
      }
    ]

exponent_bytes : (c : ℕ) → (c ≡ capital_e) ⊎ (c ≡ small_e) → char_set_contains (codes "Ee") c ≡ true
exponent_bytes c (inl e) = rw e
exponent_bytes c (inr e) = rw e

pub exponent_byte : (c : ℕ) → char_set_contains (codes "Ee") c ≡ true → (c ≡ capital_e) ⊎ (c ≡ small_e)
exponent_byte c is = elim (eqb_tells c capital_e) [ inl y ↦ inl y.1 | inr n ↦ inr (grind (arith, nat_tests)) ]

exponent_mark_sound : (t r : List ℕ) → after_exponent_mark t ≡ Some r → (a : List ℕ) × (t ≡ a ++ r) × OneByteOf (codes "Ee") a
unfolding after_exponent_mark
exponent_mark_sound [] r e = cc
exponent_mark_sound (c ∷ cs) r e = elim (eqb_tells c capital_e) [
  | inl y ↦ let f : Some cs ≡ Some r = rw y.0 at e in (c ∷ [], cc, (c, exponent_bytes c (inl y.1), refl))
  | inr n ↦ elim (eqb_tells c small_e) [
    | inl y ↦ let f : Some cs ≡ Some r = rw (n.0, y.0) at e in (c ∷ [], cc, (c, exponent_bytes c (inr y.1), refl))
    | inr m ↦ let f : None ≡ Some r = rw (n.0, m.0) at e in cc
  ]
]

exponent_mark_complete : (a r : List ℕ) → OneByteOf (codes "Ee") a → Anything r → after_exponent_mark (a ++ r) ≡ Some r
unfolding after_exponent_mark
exponent_mark_complete a r (c, is, e) stop = elim (exponent_byte c is) [ inl x ↦ rw (e, x) | inr x ↦ rw (e, x) ]

exponent_mark : Strips after_exponent_mark (OneByteOf (codes "Ee")) Anything
exponent_mark = record { sound = exponent_mark_sound; complete = exponent_mark_complete }

-- a sign, if there is one, and 1 to 3 digits
signed_digits : Strips (λ t. Some (after_sign t) >>= after_digits 1 3) (Optional Sign ⨾ DigitsOf 1 3) (NotFirst is_ascii_digit)
signed_digits = seq (λ t. Some (after_sign t)) (after_digits 1 3) sign (digits 1 3)
    (λ a r q stop. leads_digits is_sign (λ c d. grind (arith, nat_tests)) a r q.0 q.2)

pub exponent : Strips after_exponent Exponent (NotFirst is_ascii_digit)
unfolding after_exponent
exponent = seq after_exponent_mark (λ t. Some (after_sign t) >>= after_digits 1 3) exponent_mark signed_digits (λ a r q stop. tt)

any_sound : {P Stop : List ℕ → Type 0} (s : List ℕ → Option (List ℕ)) → Strips s P Stop → (t r : List ℕ) → if_any s t ≡ Some r → (a : List ℕ) × (t ≡ a ++ r) × Optional P a
any_sound s h [] r e = let f : [] ≡ r = cc in ([], f, inl refl)
any_sound s h (c ∷ cs) r e = let (a, ta, pa) = h.sound (c ∷ cs) r e in (a, ta, inr pa)

any_there : (s : List ℕ → Option (List ℕ)) (t : List ℕ) → s t ≡ Some [] → if_any s t ≡ Some []
any_there s [] e = refl
any_there s (c ∷ cs) e = e

-- a part that may be missing at the end
pub any : {P Stop : List ℕ → Type 0} (s : List ℕ → Option (List ℕ)) → Strips s P Stop → Stop [] → Strips (if_any s) (Optional P) Nothing
any s h end = record {
  sound = any_sound s h;
  complete = λ a r p stop. elim p [
    | inl e ↦ rw (e, stop)
    | inr w ↦ rw (stop, append-nil a) (any_there s a (ap s (sym (append-nil a)) ∙ h.complete a [] w end))
  ];
}

two_from : (a b n : ℕ) (cs r : List ℕ) → (digit 0 ≤ a) × (a ≤ digit 9) → (digit 0 ≤ b) × (b ≤ digit 9)
    → 10 * (a - digit 0) + (b - digit 0) ≡ n → cs ≡ r → (n < 100) × (a ∷ b ∷ cs ≡ two_digits n ++ r)
two_from a b n cs r da db e f =
    let x : digit (n / 10) ≡ a = omega arith in
    let y : digit (n % 10) ≡ b = omega arith in
    (omega arith, rw (x, y, f))

two_cases : (a b : ℕ) (cs r : List ℕ) (n : ℕ) (x y : Bool) → is_ascii_digit a ≡ x → is_ascii_digit b ≡ y
    → cond {A = Option (ℕ × List ℕ)} (x && y) (Some (10 * (a - digit 0) + (b - digit 0), cs)) None ≡ Some (n, r) → (n < 100) × (a ∷ b ∷ cs ≡ two_digits n ++ r)
two_cases a b cs r n true true da db e =
    let p : ℕ × List ℕ = (10 * (a - digit 0) + (b - digit 0), cs) in
    let q : ℕ × List ℕ = (n, r) in
    let both : p ≡ q = cc in
    two_from a b n cs r (is_digit_tells a da) (is_digit_tells b db) (ap (λ z. z.0) both) (ap (λ z. z.1) both)
two_cases a b cs r n x y da db e = cc

pub two_sound : (t r : List ℕ) (n : ℕ) → read_two t ≡ Some (n, r) → (n < 100) × (t ≡ two_digits n ++ r)
unfolding read_two
two_sound [] r n e = cc
two_sound (a ∷ []) r n e = cc
two_sound (a ∷ b ∷ cs) r n e = two_cases a b cs r n (is_ascii_digit a) (is_ascii_digit b) refl refl e

pub two_complete : (n : ℕ) (r : List ℕ) → n < 100 → read_two (two_digits n ++ r) ≡ Some (n, r)
unfolding read_two
two_complete n r h =
    let x : is_ascii_digit (digit (n / 10)) ≡ true = is_digit_yes (digit (n / 10)) (omega arith, omega arith) in
    let y : is_ascii_digit (digit (n % 10)) ≡ true = is_digit_yes (digit (n % 10)) (omega arith, omega arith) in
    let e : 10 * (digit (n / 10) - digit 0) + (digit (n % 10) - digit 0) ≡ n = omega arith in
    rw (x, y, e)

number_cases : (low high : ℕ) (t r : List ℕ) (o : Option (ℕ × List ℕ)) → read_two t ≡ o
    → (o >>= (λ n. cond (nat_le low n.0 && nat_le n.0 high) (Some n.1) None)) ≡ Some r → (a : List ℕ) × (t ≡ a ++ r) × TwoDigits low high a
number_cases low high t r None e f = cc
number_cases low high t r (Some (n, m)) e f = elim (leb_tells low n) [
  | inr x ↦ let g : None ≡ Some r = rw x.0 at f in cc
  | inl x ↦ elim (leb_tells n high) [
    | inr y ↦ let g : None ≡ Some r = rw (x.0, y.0) at f in cc
    | inl y ↦ let g : Some m ≡ Some r = rw (x.0, y.0) at f in
        (two_digits n, (two_sound t m n e).1 ∙ ap (λ z. two_digits n ++ z) cc, (n, x.1, y.1, refl))
  ]
]

number_complete : (low high : ℕ) → high < 100 → (a r : List ℕ) → TwoDigits low high a → Anything r → after_two_digits low high (a ++ r) ≡ Some r
unfolding after_two_digits
number_complete low high small a r (n, l, h, e) stop =
    let x : nat_le low n ≡ true = grind (arith, nat_tests) in
    let y : nat_le n high ≡ true = grind (arith, nat_tests) in
    rw (e, two_complete n r (omega arith), x, y)

pub number : (low high : ℕ) → high < 100 → Strips (after_two_digits low high) (TwoDigits low high) Anything
unfolding after_two_digits
number low high small = record {
  sound = λ t r e. number_cases low high t r (read_two t) refl e;
  complete = number_complete low high small;
}

pub sixtieth : Strips after_sixtieth MinutesOrSeconds Anything
unfolding after_sixtieth
sixtieth = seq (after_mark colon) (after_two_digits 0 59) (mark colon) (number 0 59 (omega arith)) (λ a r q stop. tt)
