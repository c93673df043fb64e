-- Days by their texts and by their numbers.
use Rattle.std.proofs.Common.{◌≡◌, ℕ, ◌+◌, ◌*◌, ◌/◌, ◌%◌, ◌<◌, nat_lt, nat_le, take, drop, Bool, ◌&&◌, if◌then◌else◌, List, [], ◌∷◌, length, get_or, true, false, Option, Some, None, IsSome, IfSome, ◌↔◌, refl, sym, ap, ◌∙◌, subst, arith, ℤ, pos, negsuc, unsigned_abs, ◌≤ℤ◌, int_le}
use Rattle.std.proofs.lemmas.Int.{ints}
use Rattle.std.proofs.lemmas.Bool.{false≢true, and_parts, leb-true, le-leb, ltb-true, lt-ltb}
use Rattle.std.specs.Int.{IsInRange}
use Rattle.jiff.specs.Words.{IsDate, IsBetween, IsYear, IsYmd, epoch_day, days_in_month}
use Rattle.jiff_core.specs.declared.civil.date.Date.{Date}
use Rattle.jiff_core.proofs.DateLemmas.{civil}
use Rattle.jiff_core.specs.Calendar.{days_from_civil, IsCivilDate}
use Rattle.jiff_core.proofs.CalendarLemmas.{days_in_month_bounds, day_count-lt_year, day_count-epoch, days_from_civil-day_count}
use Rattle.std.proofs.lemmas.Option.{same_Some}
use Rattle.std.proofs.lemmas.Slice.Eq.{bytes_eq-Decides}
use Rattle.std.specs.Str.{bytes_eq}
use Rattle.reg_policy.specs.Days.{year_text, number_in, is_date, day_number_of, day_of, two_digit_text, day_text, is_day_number, IsDateOf, HasDate, IsWritten, Writes}

-- the number of a day
abbrev pub IsDayNumber : ℤ → Type 0
IsDayNumber n = is_day_number n ≡ true

pub day_bounds : (n : ℤ) → IsDayNumber n → IsBetween (pos 0) (pos 2_932_896) n
day_bounds (pos k) h =
    let (low, high) = and_parts (int_le (pos 0) (pos k)) (int_le (pos k) (pos 2_932_896)) h in
    (omega (arith, ints), omega (arith, ints, leb-true k 2_932_896 high))
day_bounds (negsuc k) h = absurd (false≢true h)

-- a calendar date has few digits
pub small_parts : (y m d : ℕ) → IsDate (pos y) (pos m) (pos d) → (m < 100) × (d < 100)
small_parts y m d date =
    let short = (days_in_month_bounds (pos y) m).0 in (omega (arith, ints, date.1), omega (arith, ints, date.2, short))

-- the digits give back the number that they were made of
four-digits : (n : ℕ) → n < 10000 → number_in (year_text n) ≡ n
four-digits n small = omega arith

two-digits : (n : ℕ) → n < 100 → number_in (two_digit_text n) ≡ n
two-digits n small = omega arith

-- a text is written by one year, month and day
one_text : (y m d y2 m2 d2 : ℕ) → y < 10000 → m < 100 → d < 100 → y2 < 10000 → m2 < 100 → d2 < 100
    → day_text y m d ≡ day_text y2 m2 d2 → (y ≡ y2) × (m ≡ m2) × (d ≡ d2)
one_text y m d y2 m2 d2 hy hm hd hy2 hm2 hd2 e = (
  sym (four-digits y hy) ∙ ap (λ t. number_in (take 4 t)) e ∙ four-digits y2 hy2,
  sym (two-digits m hm) ∙ ap (λ t. number_in (take 2 (drop 5 t))) e ∙ two-digits m2 hm2,
  sym (two-digits d hd) ∙ ap (λ t. number_in (take 2 (drop 8 t))) e ∙ two-digits d2 hd2,
)

-- the readers of the parts and of the number, one after the other
abbrev pub Parts : List ℕ → Option (ℕ × ℕ × ℕ) → Type 0
Parts text r = (y m d : ℕ) → (r ≡ Some (y, m, d)) ↔ IsWritten y m d text

pub no_day : (text : List ℕ) (y m d : ℕ) → IsWritten y m d text → ((n : ℤ) → ¬ (IsDateOf y m d n)) → (n : ℤ) → ¬ (Writes text n × IsDayNumber n)
no_day text y m d (hy, hm, hd, e) none n ((y2, m2, d2, (hy2, (date, num)), e2), in_range) =
    let (sm, sd) = small_parts y2 m2 d2 date in
    let (a, b, c) = one_text y2 m2 d2 y m d hy2 sm sd hy hm hd (sym e2 ∙ e) in
    none n (subst (λ z. IsDateOf y m z n) c (subst (λ z. IsDateOf y z d2 n) b (subst (λ z. IsDateOf z m2 d2 n) a (date, num))))

pub the_day : (text : List ℕ) (y m d : ℕ) (k : ℤ) → IsWritten y m d text → IsDateOf y m d k → (n : ℤ) → Writes text n → n ≡ k
the_day text y m d k (hy, hm, hd, e) (date, num) n (y2, m2, d2, (hy2, (date2, num2)), e2) =
    let (sm, sd) = small_parts y2 m2 d2 date2 in
    let (a, b, c) = one_text y2 m2 d2 y m d hy2 sm sd hy hm hd (sym e2 ∙ e) in
    sym num2 ∙ ap (λ z. days_from_civil (pos z) m2 d2) a ∙ ap (λ z. days_from_civil (pos y) z d2) b ∙ ap (λ z. days_from_civil (pos y) m z) c ∙ num

pub number_is : (date : Date) (y m d : ℕ) (ys ms ds k k2 : ℤ) → ys ≡ pos y → ms ≡ pos m → ds ≡ pos d → IsDate ys ms ds → IsYmd ys ms ds date
    → k ≡ epoch_day date → k2 ≡ k → (n : ℤ) → (Some k2 ≡ Some n) ↔ IsDateOf y m d n
number_is date y m d ys ms ds k k2 ey em ed there v ek e2 n =
    let real : IsDate (pos y) (pos m) (pos d) = rw (ey, em, ed) at there in
    let num : days_from_civil date.year date.month date.day ≡ days_from_civil (pos y) m d = cc in
    (λ e. (real, cc), λ w. cc)

year_cases : (z : ℤ) (m d : ℕ) → IsCivilDate z m d → pos 0 ≤ℤ days_from_civil z m d → (y : ℕ) × (z ≡ pos y) × (y < 10000)
year_cases (pos y) m d h low = (y, refl, omega (arith, ints, h.0))
year_cases (negsuc k) m d h low =
    let before = day_count-lt_year (negsuc k) m d (pos 1970) 1 1 h (omega arith) (omega (arith, ints)) in
    absurd (omega (arith, ints, before, day_count-epoch, days_from_civil-day_count (negsuc k) m d, low))

civil_from : (y m d n : ℕ) → IsInRange 1 12 m → IsInRange 1 n d → y < 10000 → IsYear (pos y) × IsBetween (pos 1) (pos 12) (pos m) × IsBetween (pos 1) (pos n) (pos d)
civil_from y m d n a b small = ((omega (arith, ints), omega (arith, ints)), (omega (arith, ints), omega (arith, ints)), (omega (arith, ints), omega (arith, ints)))

pub has_date : (date : Date) (n : ℤ) → epoch_day date ≡ n → IsDayNumber n → HasDate (unsigned_abs date.year) date.month date.day n
has_date date n e in_range =
    let (y, same, small) = year_cases date.year date.month date.day (civil date) (rw e (day_bounds n in_range).0) in
    let c = civil date in
    rw same (
      small,
      (
        civil_from y date.month date.day (days_in_month (pos y) date.month) c.1 (rw same at c.2) small,
        sym (ap (λ z. days_from_civil z date.month date.day) same) ∙ e,
      ),
    )

pub read_day : (text : List ℕ) (parts : Option (ℕ × ℕ × ℕ)) (y m d : ℕ) (k : ℤ) (r : Option ℤ) → Parts text parts → parts ≡ Some (y, m, d) → IsDateOf y m d k
    → (IsSome r ↔ IsDayNumber k) → IfSome r (λ z. z ≡ k) → (n : ℤ) → (r ≡ Some n) ↔ (Writes text n × IsDayNumber n)
read_day text parts y m d k (Some z) h is date some value n =
    let w = (h y m d).0 is in (
      λ e. let g : n ≡ k = cc in rw g ((y, m, d, (w.0, date), w.3), some.0 refl),
      λ p. ap Some (value ∙ sym (the_day text y m d k w date n p.0)),
    )
read_day text parts y m d k None h is date some value n =
    let w = (h y m d).0 is in
    (λ e. absurd (cc), λ p. absurd (false≢true (some.1 (subst IsDayNumber (the_day text y m d k w date n p.0) p.1))))

-- a text of ten bytes, byte by byte
ten_of : (t : List ℕ) → length t ≡ 10
    → t ≡ get_or t 0 0 ∷ get_or t 1 0 ∷ get_or t 2 0 ∷ get_or t 3 0 ∷ get_or t 4 0 ∷ get_or t 5 0 ∷ get_or t 6 0 ∷ get_or t 7 0 ∷ get_or t 8 0 ∷ get_or t 9 0 ∷ []
ten_of (a ∷ b ∷ c ∷ d ∷ e ∷ f ∷ g ∷ h ∷ i ∷ j ∷ []) len = refl
ten_of t len = absurd (omega arith)

pub parts_are : (t : List ℕ) (c y m d : ℕ) → length t ≡ 10 → get_or t 4 0 ≡ 45 → get_or t 7 0 ≡ 45 → c < 100 → y < 100 → m < 100 → d < 100
    → two_digit_text c ≡ get_or t 0 0 ∷ get_or t 1 0 ∷ [] → two_digit_text y ≡ get_or t 2 0 ∷ get_or t 3 0 ∷ []
    → two_digit_text m ≡ get_or t 5 0 ∷ get_or t 6 0 ∷ [] → two_digit_text d ≡ get_or t 8 0 ∷ get_or t 9 0 ∷ []
    → Parts t (Some (100 * c + y, m, d))
parts_are t c y m d len e4 e7 hc hy hm hd tc ty tm td y2 m2 d2 =
    let year = 100 * c + y in
    let high : year / 100 ≡ c = omega arith in
    let low : year % 100 ≡ y = omega arith in
    let in_range : year < 10000 = omega arith in
    let whole : t ≡ day_text year m d = cc (ten_of t len) in
    let w : IsWritten year m d t = (in_range, hm, hd, whole) in (
      λ e. subst (λ (z : ℕ × ℕ × ℕ). IsWritten z.0 z.1 z.2 t) (same_Some _ _ e) w,
      λ v. let (a, b, f) = one_text year m d y2 m2 d2 in_range hm hd v.0 v.1 v.2 (sym whole ∙ v.3) in rw (a, b, f),
    )

-- the calendar's test
date_sound : (y m d : ℕ) → is_date y m d ≡ true → (y < 10000) × IsDate (pos y) (pos m) (pos d)
date_sound y m d h =
    let n = days_in_month (pos y) m in
    let (g, last) = and_parts (nat_lt y 10000 && nat_le 1 m && nat_le m 12 && nat_le 1 d) (nat_le d n) h in
    let (f, first) = and_parts (nat_lt y 10000 && nat_le 1 m && nat_le m 12) (nat_le 1 d) g in
    let (e, late) = and_parts (nat_lt y 10000 && nat_le 1 m) (nat_le m 12) f in
    let (year, early) = and_parts (nat_lt y 10000) (nat_le 1 m) e in
    let small = ltb-true y 10000 year in
    (small, civil_from y m d n (leb-true 1 m early, leb-true m 12 late) (leb-true 1 d first, leb-true d n last) small)

date_complete : (y m d : ℕ) → y < 10000 → IsDate (pos y) (pos m) (pos d) → is_date y m d ≡ true
date_complete y m d h date =
    let first = le-leb 1 m (omega (arith, ints, date.1)) in
    let last = le-leb m 12 (omega (arith, ints, date.1)) in
    rw (lt-ltb y 10000 h, first, last, le-leb 1 d (omega (arith, ints, date.2)), le-leb d (days_in_month (pos y) m) (omega (arith, ints, date.2)))

-- what a test that was passed gave
if_some : {A : Type 0} (b : Bool) (o : Option A) (a : A) → (if b then o else None) ≡ Some a → (b ≡ true) × (o ≡ Some a)
if_some true o a e = (refl, e)
if_some false o a e = cc

number_sound : (y m d : ℕ) (n : ℤ) → day_number_of y m d ≡ Some n → HasDate y m d n × IsDayNumber n
number_sound y m d n e =
    let k = days_from_civil (pos y) m d in
    let (test, is) = if_some (is_date y m d && is_day_number k) (Some k) n e in
    let (date, in_range) = and_parts (is_date y m d) (is_day_number k) test in
    let same : k ≡ n = cc in
    let (small, there) = date_sound y m d date in
    ((small, (there, same)), subst IsDayNumber same in_range)

-- the day of a text is the one that it writes
pub day_of-Writes : (text : List ℕ) (n : ℤ) → (day_of text ≡ Some n) ↔ (Writes text n × IsDayNumber n)
day_of-Writes text n = (
  λ e.
      let y = number_in (take 4 text) in
      let m = number_in (take 2 (drop 5 text)) in
      let d = number_in (take 2 (drop 8 text)) in
      let (same, is) = if_some (bytes_eq text (day_text y m d)) (day_number_of y m d) n e in
      let (date, in_range) = number_sound y m d n is in
      ((y, m, d, date, (bytes_eq-Decides text (day_text y m d)).0 same), in_range),
  λ w.
      let ((y, m, d, (small, (there, num)), is), in_range) = w in
      let (sm, sd) = small_parts y m d there in
      let whole = (bytes_eq-Decides (day_text y m d) (day_text y m d)).1 refl in
      rw is (rw (four-digits y small, two-digits m sm, two-digits d sd, whole, date_complete y m d small there, num, in_range)),
)

-- two answers that hold the same are the same
pub same_option : {A : Type 0} (P : A → Type 0) (a b : Option A) → ((n : A) → (a ≡ Some n) ↔ P n) → ((n : A) → (b ≡ Some n) ↔ P n) → a ≡ b
same_option P (Some x) b f g = sym ((g x).1 ((f x).0 refl))
same_option P None (Some y) f g = (f y).1 ((g y).0 refl)
same_option P None None f g = refl
