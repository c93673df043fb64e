-- A text under a unit.
use Rattle.std.proofs.Common.{◌≡◌, ◌≢◌, ℕ, ◌==◌, length, Bool, false, cond, List, [], codes, Option, Decides, refl, sym, ap, ◌∙◌, subst, inl, inr}
use Rattle.std.proofs.lemmas.Bool.Decides.{Decides-like, Decides-at}
use Rattle.std.proofs.lemmas.Bool.{false≢true}
use Rattle.std.specs.Str.{bytes_eq}
use Rattle.ags_cells.specs.Parts.{◌⨾◌, OneByteOf, DigitsOf, TwoDigits}
use Rattle.ags_cells.specs.Numbers.{MinutesOrSeconds}
use Rattle.ags_cells.specs.Times.{CalendarDay, DayWith, FitsUnit}
use Rattle.ags_cells.specs.Fits.{Fits, IsEntryOf}
use Rattle.ags_cells.specs.TimeUnits.{IsTimeUnit, IsUnitOf}
use Rattle.ags_cells.specs.declared.time_unit.TimeUnit.{TimeUnit}
use Rattle.ags_cells.specs.declared.time_unit.TimeUnit.TheVariants as Units
use Rattle.ags_cells.specs.declared.cell_type.CellType.{CellType}
use Rattle.ags_cells.specs.Readers.{then_rest, is_empty, fits_dated, after_digits, after_month, after_day, after_day_minutes, after_day_seconds}
use Rattle.ags_cells.proofs.Strips.{Strips, whole}
use Rattle.ags_cells.proofs.PartReaders.{digits}
use Rattle.ags_cells.proofs.DayReader.{day}
use Rattle.ags_cells.proofs.TimeReaders.{month, day_minutes, day_seconds}

-- the unit that a text names
abbrev unit_of : List ℕ → TimeUnit
unit_of t =
    cond (bytes_eq t (codes "yyyy")) Units.Year
    (cond (bytes_eq t (codes "yyyy-mm")) Units.Month
    (cond (bytes_eq t (codes "yyyy-mm-dd")) Units.Day
    (cond (bytes_eq t (codes "yyyy-mm-ddThh:mm")) Units.DayMinutes
    (cond (bytes_eq t (codes "yyyy-mm-ddThh:mm:ss")) Units.DaySeconds
    (cond (bytes_eq t (codes "hh:mm")) Units.Minutes Units.Seconds)))))

named : (t : List ℕ) (u : TimeUnit) → IsTimeUnit t u → unit_of t ≡ u
named t Units.Other e = absurd e
named t u e = rw e

same_unit : (t : List ℕ) (u v : TimeUnit) → IsUnitOf t u → IsTimeUnit t v → u ≡ v
same_unit t Units.Other v is h = absurd (is v h)
same_unit t u v is h = sym (named t u is) ∙ named t v h

-- the texts of a unit
abbrev pub IsUnderUnit : (H : List ℕ → Type 0) → TimeUnit → List ℕ → Type 0
IsUnderUnit H Units.Year text = DigitsOf 4 4 text
IsUnderUnit H Units.Month text = (DigitsOf 4 4 ⨾ OneByteOf (codes "-") ⨾ TwoDigits 1 12) text
IsUnderUnit H Units.Day text = CalendarDay text
IsUnderUnit H Units.DayMinutes text = DayWith (TwoDigits 0 23 ⨾ MinutesOrSeconds) text
IsUnderUnit H Units.DaySeconds text = DayWith (TwoDigits 0 23 ⨾ MinutesOrSeconds ⨾ MinutesOrSeconds) text
IsUnderUnit H Units.Minutes text = (H ⨾ MinutesOrSeconds) text
IsUnderUnit H Units.Seconds text = (H ⨾ MinutesOrSeconds ⨾ MinutesOrSeconds) text
IsUnderUnit H Units.Other text = Unit {0}

timed_from : (H : List ℕ → Type 0) (unit text : List ℕ) (u : TimeUnit) → IsUnitOf unit u → IsUnderUnit H u text → FitsUnit H unit text
timed_from H unit text u is fact =
    let P : TimeUnit → Type 0 = λ v. IsUnderUnit H v text in
    record {
      year = λ e. subst P (same_unit unit u Units.Year is e) fact;
      month = λ e. subst P (same_unit unit u Units.Month is e) fact;
      day = λ e. subst P (same_unit unit u Units.Day is e) fact;
      day_minutes = λ e. subst P (same_unit unit u Units.DayMinutes is e) fact;
      day_seconds = λ e. subst P (same_unit unit u Units.DaySeconds is e) fact;
      minutes = λ e. subst P (same_unit unit u Units.Minutes is e) fact;
      seconds = λ e. subst P (same_unit unit u Units.Seconds is e) fact;
    }

timed_to : (H : List ℕ → Type 0) (unit text : List ℕ) (u : TimeUnit) → IsUnitOf unit u → FitsUnit H unit text → IsUnderUnit H u text
timed_to H unit text Units.Year is h = h.year is
timed_to H unit text Units.Month is h = h.month is
timed_to H unit text Units.Day is h = h.day is
timed_to H unit text Units.DayMinutes is h = h.day_minutes is
timed_to H unit text Units.DaySeconds is h = h.day_seconds is
timed_to H unit text Units.Minutes is h = h.minutes is
timed_to H unit text Units.Seconds is h = h.seconds is
timed_to H unit text Units.Other is h = tt

pub timed : (H : List ℕ → Type 0) (unit text : List ℕ) (u : TimeUnit) (q : Bool) → IsUnitOf unit u → Decides q (IsUnderUnit H u text) → Decides q (FitsUnit H unit text)
timed H unit text u q is h = Decides-like q (timed_from H unit text u is) (timed_to H unit text u is) h

pub dated : (H : List ℕ → Type 0) (u : TimeUnit) (text : List ℕ) → u ≢ Units.Minutes → u ≢ Units.Seconds → Decides (fits_dated u text) (IsUnderUnit H u text)
dated H Units.Year text a b = whole (after_digits 4 4) (digits 4 4) tt text
dated H Units.Month text a b = whole after_month month tt text
dated H Units.Day text a b = whole after_day day tt text
dated H Units.DayMinutes text a b = whole after_day_minutes day_minutes refl text
dated H Units.DaySeconds text a b = whole after_day_seconds day_seconds refl text
dated H Units.Minutes text a b = absurd (a refl)
dated H Units.Seconds text a b = absurd (b refl)
dated H Units.Other text a b = (λ _. tt, λ _. refl)

-- a reader's answer, where the code gives what the reader does
pub wholly : {P Stop : List ℕ → Type 0} (s : List ℕ → Option (List ℕ)) → Strips s P Stop → Stop [] → (t : List ℕ) (o : Option (List ℕ)) (q : Bool)
    → q ≡ then_rest o is_empty → o ≡ s t → Decides q (P t)
wholly s h stop t o q e f = Decides-at q _ (e ∙ ap (λ z. then_rest z is_empty) f) (whole s h stop t)

-- a cell that is not null
pub fitted : (t : CellType) (unit text : List ℕ) (q : Bool) → text ≢ [] → Decides q (IsEntryOf t unit text) → Decides q (Fits t unit text)
fitted t unit text q some h = (λ yes. inr (h.0 yes), λ w. elim w [ inl e ↦ absurd (some e) | inr s ↦ h.1 s ])

pub not_null : (xs : List ℕ) → false ≡ (length xs == 0) → xs ≢ []
not_null xs h e = false≢true (h ∙ ap (λ z. length z == 0) e)
