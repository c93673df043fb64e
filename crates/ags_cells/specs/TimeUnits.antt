-- The units of dates and times that have a form of their own.
use Rattle.std.specs.Prelude.{◌≡◌, ℕ, List, codes}
use Rattle.ags_cells.specs.declared.time_unit.TimeUnit.{TimeUnit}
use Rattle.ags_cells.specs.declared.time_unit.TimeUnit.TheVariants.{Year, Month, Day, DayMinutes, DaySeconds, Minutes, Seconds, Other}

-- the text of a unit of time that has a form
abbrev pub IsTimeUnit : List ℕ → TimeUnit → Type 0
IsTimeUnit text Year = text ≡ codes "yyyy"
IsTimeUnit text Month = text ≡ codes "yyyy-mm"
IsTimeUnit text Day = text ≡ codes "yyyy-mm-dd"
IsTimeUnit text DayMinutes = text ≡ codes "yyyy-mm-ddThh:mm"
IsTimeUnit text DaySeconds = text ≡ codes "yyyy-mm-ddThh:mm:ss"
IsTimeUnit text Minutes = text ≡ codes "hh:mm"
IsTimeUnit text Seconds = text ≡ codes "hh:mm:ss"
IsTimeUnit text Other = ⊥

-- the text of a unit. `Other` has every text that no unit above has
abbrev pub IsUnitOf : List ℕ → TimeUnit → Type 0
IsUnitOf text Other = (unit : TimeUnit) → ¬ (IsTimeUnit text unit)
IsUnitOf text unit = IsTimeUnit text unit
