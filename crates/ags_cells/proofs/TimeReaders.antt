-- What the readers of dates and times take off a text.
use Rattle.std.proofs.Common.{codes, refl, arith}
use Rattle.std.specs.Char.{is_ascii_digit}
use Rattle.ags_cells.specs.Bytes.{hyphen, capital_t}
use Rattle.ags_cells.specs.Parts.{◌⨾◌, OneByteOf, DigitsOf, TwoDigits}
use Rattle.ags_cells.specs.Numbers.{MinutesOrSeconds}
use Rattle.ags_cells.specs.Times.{DayWith}
use Rattle.ags_cells.specs.Readers.{◌>>=◌, if_any, after_mark, after_digits, after_two_digits, after_sixtieth, after_day, after_month, after_clock_minutes, after_clock_seconds, after_elapsed_minutes, after_elapsed_seconds, after_time_minutes, after_time_seconds, after_day_minutes, after_day_seconds}
use Rattle.ags_cells.proofs.Strips.{Strips, Anything, Nothing, seq, mark}
use Rattle.ags_cells.proofs.PartReaders.{leads_mark, leads_seq, digits, any, number, sixtieth}
use Rattle.ags_cells.proofs.NumberReaders.{leads_minutes, leads_sixtieth}
use Rattle.ags_cells.proofs.DayReader.{day}

pub month : Strips after_month (DigitsOf 4 4 ⨾ OneByteOf (codes "-") ⨾ TwoDigits 1 12) Anything
unfolding after_month
month = seq (after_digits 4 4) (λ t. after_mark hyphen t >>= after_two_digits 1 12) (digits 4 4)
    (seq (after_mark hyphen) (after_two_digits 1 12) (mark hyphen) (number 1 12 (omega arith)) (λ a r q stop. tt))
    (λ a r q stop. leads_seq is_ascii_digit (OneByteOf (codes "-")) (TwoDigits 1 12) (leads_mark is_ascii_digit hyphen refl) a r q)

pub clock_minutes : Strips after_clock_minutes (TwoDigits 0 23 ⨾ MinutesOrSeconds) Anything
unfolding after_clock_minutes
clock_minutes = seq (after_two_digits 0 23) after_sixtieth (number 0 23 (omega arith)) sixtieth (λ a r q stop. tt)

pub clock_seconds : Strips after_clock_seconds (TwoDigits 0 23 ⨾ MinutesOrSeconds ⨾ MinutesOrSeconds) Anything
unfolding after_clock_seconds
clock_seconds = seq (after_two_digits 0 23) (λ t. after_sixtieth t >>= after_sixtieth) (number 0 23 (omega arith))
    (seq after_sixtieth after_sixtieth sixtieth sixtieth (λ a r q stop. tt)) (λ a r q stop. tt)

pub elapsed_minutes : Strips after_elapsed_minutes (DigitsOf 2 4 ⨾ MinutesOrSeconds) Anything
unfolding after_elapsed_minutes
elapsed_minutes = seq (after_digits 2 4) after_sixtieth (digits 2 4) sixtieth (λ a r q stop. leads_minutes a r q)

pub elapsed_seconds : Strips after_elapsed_seconds (DigitsOf 2 4 ⨾ MinutesOrSeconds ⨾ MinutesOrSeconds) Anything
unfolding after_elapsed_seconds
elapsed_seconds = seq (after_digits 2 4) (λ t. after_sixtieth t >>= after_sixtieth) (digits 2 4)
    (seq after_sixtieth after_sixtieth sixtieth sixtieth (λ a r q stop. tt)) (λ a r q stop. leads_sixtieth MinutesOrSeconds a r q)

pub time_minutes : Strips after_time_minutes (OneByteOf (codes "T") ⨾ TwoDigits 0 23 ⨾ MinutesOrSeconds) Anything
unfolding after_time_minutes
time_minutes = seq (after_mark capital_t) after_clock_minutes (mark capital_t) clock_minutes (λ a r q stop. tt)

pub time_seconds : Strips after_time_seconds (OneByteOf (codes "T") ⨾ TwoDigits 0 23 ⨾ MinutesOrSeconds ⨾ MinutesOrSeconds) Anything
unfolding after_time_seconds
time_seconds = seq (after_mark capital_t) after_clock_seconds (mark capital_t) clock_seconds (λ a r q stop. tt)

pub day_minutes : Strips after_day_minutes (DayWith (TwoDigits 0 23 ⨾ MinutesOrSeconds)) Nothing
unfolding after_day_minutes
day_minutes = seq after_day (if_any after_time_minutes) day (any after_time_minutes time_minutes tt) (λ a r q stop. tt)

pub day_seconds : Strips after_day_seconds (DayWith (TwoDigits 0 23 ⨾ MinutesOrSeconds ⨾ MinutesOrSeconds)) Nothing
unfolding after_day_seconds
day_seconds = seq after_day (if_any after_time_seconds) day (any after_time_seconds time_seconds tt) (λ a r q stop. tt)
