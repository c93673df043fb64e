-- How dates, times of day and lengths of time are written (Rule 8), by the text of their unit. Each letter of a unit is
-- one digit, and `T`, `-` and `:` stand for themselves. The Gregorian calendar is that of `jiff`: `IsDate` says that it
-- has a day.
use Rattle.std.specs.Prelude.{◌≡◌, ℕ, ◌/◌, ◌%◌, ◌<◌, List, ◌++◌, codes, pos}
use Rattle.jiff.specs.Words.{IsDate}
use Rattle.ags_cells.specs.Parts.{◌⨾◌, Optional, OneByteOf, DigitsOf, TwoDigits, two_digits}
use Rattle.ags_cells.specs.Numbers.{MinutesOrSeconds}

-- `yyyy-mm-dd`: a day that the Gregorian calendar has, of a year 0000 to 9999
abbrev pub CalendarDay : List ℕ → Type 0
CalendarDay text = (year : ℕ) × (month : ℕ) × (day : ℕ) × (year < 10000) × IsDate (pos year) (pos month) (pos day)
    × (text ≡ two_digits (year / 100) ++ two_digits (year % 100) ++ codes "-" ++ two_digits month ++ codes "-"
    ++ two_digits day)

-- a day, optionally followed by `T` and a time of day: under a unit of date and time a date alone fits
abbrev pub DayWith : (List ℕ → Type 0) → List ℕ → Type 0
DayWith Time = CalendarDay ⨾ Optional (OneByteOf (codes "T") ⨾ Time)

-- the texts under a unit: years 0000 to 9999; months 01 to 12; hours 00 to 23 after a date, and else those of Hours;
-- minutes and seconds 00 to 59. Under any other unit every text is one
pub record FitsUnit (Hours : List ℕ → Type 0) (unit text : List ℕ) : Type 0 where
  pub year : unit ≡ codes "yyyy" → DigitsOf 4 4 text
  pub month : unit ≡ codes "yyyy-mm" → (DigitsOf 4 4 ⨾ OneByteOf (codes "-") ⨾ TwoDigits 1 12) text
  pub day : unit ≡ codes "yyyy-mm-dd" → CalendarDay text
  pub day_minutes : unit ≡ codes "yyyy-mm-ddThh:mm" → DayWith (TwoDigits 0 23 ⨾ MinutesOrSeconds) text
  pub day_seconds : unit ≡ codes "yyyy-mm-ddThh:mm:ss"
      → DayWith (TwoDigits 0 23 ⨾ MinutesOrSeconds ⨾ MinutesOrSeconds) text
  pub minutes : unit ≡ codes "hh:mm" → (Hours ⨾ MinutesOrSeconds) text
  pub seconds : unit ≡ codes "hh:mm:ss" → (Hours ⨾ MinutesOrSeconds ⨾ MinutesOrSeconds) text
