use Rattle.std.proofs.lemmas.Bool.Decides.{Decides-at}
use Rattle.ags_cells.specs.Parts.{TwoDigits}
use Rattle.ags_cells.specs.Readers.{after_clock_minutes, after_clock_seconds}
use Rattle.ags_cells.specs.declared.time_unit.TimeUnit.TheVariants as Units
use Rattle.ags_cells.proofs.TimeReaders.{clock_minutes, clock_seconds}
use Rattle.ags_cells.proofs.UnitLemmas.{timed, dated, wholly}
use Rattle.ags_cells.proofs.time.fits_date_time.Goals as goal

pub returns-in-Minutes : goal.returns-in-Minutes
returns-in-Minutes c =
    timed (TwoDigits 0 23) c.args.unit.now c.args.text.now Units.Minutes _ c.in-Minutes.ensures
    (wholly after_clock_minutes clock_minutes tt c.args.text.now _ _ c.is_whole.ensures c.after_clock_minutes.ensures)

pub returns-in-Seconds : goal.returns-in-Seconds
returns-in-Seconds c =
    timed (TwoDigits 0 23) c.args.unit.now c.args.text.now Units.Seconds _ c.in-Seconds.ensures
    (wholly after_clock_seconds clock_seconds tt c.args.text.now _ _ c.is_whole-in-Seconds.ensures c.after_clock_seconds.ensures)

pub returns-in_default : goal.returns-in_default
returns-in_default c =
    timed (TwoDigits 0 23) c.args.unit.now c.args.text.now c.of.result _ c.of.ensures
    (Decides-at _ _ c.fits_dated.ensures (dated (TwoDigits 0 23) c.of.result c.args.text.now c.in_default.not-Minutes c.in_default.not-Seconds))
