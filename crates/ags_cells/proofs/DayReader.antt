-- What the reader of a day of the calendar takes off a text.
use Rattle.std.proofs.Common.{◌≡◌, ℕ, ◌+◌, ◌*◌, ◌/◌, ◌%◌, ◌<◌, ◌≤◌, Bool, true, false, cond, ◌&&◌, nat_le, le-leb, List, ◌∷◌, ◌++◌, codes, Option, Some, None, Decides, refl, ap, ◌∙◌, arith, pos}
use Rattle.std.proofs.lemmas.Bool.{and_parts, leb-true}
use Rattle.std.proofs.lemmas.Int.{ints}
use Rattle.jiff_core.proofs.CalendarLemmas.{days_in_month_bounds}
use Rattle.jiff.specs.Words.{IsDate, IsYear, IsBetween, days_in_month}
use Rattle.ags_cells.specs.Bytes.{hyphen}
use Rattle.ags_cells.specs.Parts.{two_digits}
use Rattle.ags_cells.specs.Times.{CalendarDay}
use Rattle.ags_cells.specs.Readers.{◌>>=◌, after_mark, read_two, has_day, after_day}
use Rattle.ags_cells.proofs.Strips.{Strips, Anything, only, mark}
use Rattle.ags_cells.proofs.PartReaders.{two_sound, two_complete}

-- the text of a day
abbrev day_text : ℕ → ℕ → ℕ → List ℕ
day_text y m d = two_digits (y / 100) ++ two_digits (y % 100) ++ codes "-" ++ two_digits m ++ codes "-" ++ two_digits d

-- what is left after the two numbers and the mark that a reader takes
day_there : (y m d : ℕ) (r : List ℕ) → y < 10000 → m < 100 → d < 100 → has_day y m d ≡ true
    → after_day (day_text y m d ++ r) ≡ Some r
unfolding after_day after_mark
day_there y m d r hy hm hd ok =
    let century = two_complete (y / 100) (two_digits (y % 100) ++ hyphen ∷ two_digits m ++ hyphen ∷ two_digits d ++ r) (omega arith) in
    let years = two_complete (y % 100) (hyphen ∷ two_digits m ++ hyphen ∷ two_digits d ++ r) (omega arith) in
    let months = two_complete m (hyphen ∷ two_digits d ++ r) hm in
    let days = two_complete d r hd in
    let e : 100 * (y / 100) + y % 100 ≡ y = omega arith in
    rw (century, years, months, days, e, ok)

abbrev InMonth : ℕ → ℕ → ℕ → Type 0
InMonth m d n = (1 ≤ m) × (m ≤ 12) × (1 ≤ d) × (d ≤ n)

in_month_Decides : (m d n : ℕ) → Decides ((nat_le 1 m && nat_le m 12) && (nat_le 1 d && nat_le d n)) (InMonth m d n)
in_month_Decides m d n = (
  λ yes.
      let (a, b) = and_parts (nat_le 1 m && nat_le m 12) (nat_le 1 d && nat_le d n) yes in
      let (p, q) = and_parts (nat_le 1 m) (nat_le m 12) a in
      let (u, v) = and_parts (nat_le 1 d) (nat_le d n) b in
      (leb-true 1 m p, leb-true m 12 q, leb-true 1 d u, leb-true d n v),
  λ w. rw (le-leb 1 m w.0, le-leb m 12 w.1, le-leb 1 d w.2, le-leb d n w.3),
)

date_from : (y m d n : ℕ) → y < 10000 → InMonth m d n → IsYear (pos y) × IsBetween (pos 1) (pos 12) (pos m) × IsBetween (pos 1) (pos n) (pos d)
date_from y m d n h w = ((omega (arith, ints), omega (arith, ints)), (omega (arith, ints), omega (arith, ints)), (omega (arith, ints), omega (arith, ints)))

month_from : (m d n : ℕ) → IsBetween (pos 1) (pos 12) (pos m) → IsBetween (pos 1) (pos n) (pos d) → InMonth m d n
month_from m d n a b = (omega (arith, ints), omega (arith, ints), omega (arith, ints), omega (arith, ints))

pub has_day_Decides : (y m d : ℕ) → y < 10000 → Decides (has_day y m d) (IsDate (pos y) (pos m) (pos d))
has_day_Decides y m d h = (
  λ yes. date_from y m d (days_in_month (pos y) m) h ((in_month_Decides m d (days_in_month (pos y) m)).0 yes),
  λ date. (in_month_Decides m d (days_in_month (pos y) m)).1 (month_from m d (days_in_month (pos y) m) date.1 date.2),
)

invert : {A B : Type 0} (o : Option A) (f : A → Option B) (r : B) → (o >>= f) ≡ Some r → (x : A) × (o ≡ Some x) × (f x ≡ Some r)
invert None f r e = cc
invert (Some x) f r e = (x, refl, e)

abbrev day_end : ℕ → ℕ → List ℕ → Option (List ℕ)
day_end y m t = read_two t >>= (λ d. cond (has_day y m d.0) (Some d.1) None)

abbrev day_month : ℕ → List ℕ → Option (List ℕ)
day_month y t = read_two t >>= (λ m. after_mark hyphen m.1 >>= day_end y m.0)

abbrev day_year : ℕ → List ℕ → Option (List ℕ)
day_year c t = read_two t >>= (λ y. after_mark hyphen y.1 >>= day_month (100 * c + y.0))

picked : (b : Bool) (m r : List ℕ) → cond b (Some m) None ≡ Some r → (b ≡ true) × (m ≡ r)
picked true m r e = (refl, cc)
picked false m r e = cc

mark_gives : (m : ℕ) (t r : List ℕ) → after_mark m t ≡ Some r → t ≡ m ∷ r
mark_gives m t r e = let (a, ta, pa) = (mark m).sound t r e in ta ∙ ap (λ z. z ++ r) (rw (only m pa.0 pa.1) at pa.2)

end_sound : (y m : ℕ) (t r : List ℕ) → day_end y m t ≡ Some r → (d : ℕ) × (d < 100) × (has_day y m d ≡ true) × (t ≡ two_digits d ++ r)
end_sound y m t r e =
    let (p, is, f) = invert (read_two t) (λ d. cond (has_day y m d.0) (Some d.1) None) r e in
    let (ok, same) = picked (has_day y m p.0) p.1 r f in
    let (small, split) = two_sound t p.1 p.0 is in
    (p.0, small, ok, split ∙ ap (λ z. two_digits p.0 ++ z) same)

month_sound : (y : ℕ) (t r : List ℕ) → day_month y t ≡ Some r
    → (m : ℕ) × (d : ℕ) × (m < 100) × (d < 100) × (has_day y m d ≡ true) × (t ≡ two_digits m ++ hyphen ∷ two_digits d ++ r)
month_sound y t r e =
    let (p, is, f) = invert (read_two t) (λ m. after_mark hyphen m.1 >>= day_end y m.0) r e in
    let (q, marked, g) = invert (after_mark hyphen p.1) (day_end y p.0) r f in
    let (small, split) = two_sound t p.1 p.0 is in
    let (d, sd, ok, rest) = end_sound y p.0 q r g in
    (p.0, d, small, sd, ok, split ∙ ap (λ z. two_digits p.0 ++ z) (mark_gives hyphen p.1 q marked ∙ ap (λ z. hyphen ∷ z) rest))

year_sound : (c : ℕ) (t r : List ℕ) → day_year c t ≡ Some r
    → (y : ℕ) × (m : ℕ) × (d : ℕ) × (y < 100) × (has_day (100 * c + y) m d ≡ true) × (t ≡ two_digits y ++ hyphen ∷ two_digits m ++ hyphen ∷ two_digits d ++ r)
year_sound c t r e =
    let (p, is, f) = invert (read_two t) (λ y. after_mark hyphen y.1 >>= day_month (100 * c + y.0)) r e in
    let (q, marked, g) = invert (after_mark hyphen p.1) (day_month (100 * c + p.0)) r f in
    let (small, split) = two_sound t p.1 p.0 is in
    let (m, d, sm, sd, ok, rest) = month_sound (100 * c + p.0) q r g in
    (p.0, m, d, small, ok, split ∙ ap (λ z. two_digits p.0 ++ z) (mark_gives hyphen p.1 q marked ∙ ap (λ z. hyphen ∷ z) rest))

day_sound : (t r : List ℕ) → after_day t ≡ Some r → (a : List ℕ) × (t ≡ a ++ r) × CalendarDay a
unfolding after_day
day_sound t r e =
    let (p, is, f) = invert (read_two t) (λ c. day_year c.0 c.1) r e in
    let (small, split) = two_sound t p.1 p.0 is in
    let (y, m, d, sy, ok, rest) = year_sound p.0 p.1 r f in
    let year = 100 * p.0 + y in
    let in_range : year < 10000 = omega arith in
    let high : year / 100 ≡ p.0 = omega arith in
    let low : year % 100 ≡ y = omega arith in (
      day_text year m d,
      rw (high, low) (split ∙ ap (λ z. two_digits p.0 ++ z) rest),
      (year, m, d, in_range, (has_day_Decides year m d in_range).0 ok, refl),
    )

-- a day of the calendar has at most two digits for its month and day
small_parts : (y m d n : ℕ) → n ≤ 31 → InMonth m d n → (m < 100) × (d < 100)
small_parts y m d n h w = (omega arith, omega arith)

day_complete : (a r : List ℕ) → CalendarDay a → Anything r → after_day (a ++ r) ≡ Some r
day_complete a r (y, m, d, hy, date, split) stop =
    let ok = (has_day_Decides y m d hy).1 date in
    let (sm, sd) = small_parts y m d (days_in_month (pos y) m) ((days_in_month_bounds (pos y) m).0) (month_from m d (days_in_month (pos y) m) date.1 date.2) in
    rw split (day_there y m d r hy sm sd ok)

pub day : Strips after_day CalendarDay Anything
day = record { sound = day_sound; complete = day_complete }
