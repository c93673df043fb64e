use Rattle.std.proofs.lemmas.Bool.Decides.{Decides-at}
use Rattle.ags_cells.specs.Parts.{DigitsOf}
use Rattle.ags_cells.specs.Readers.{after_elapsed_minutes, after_elapsed_seconds}
use Rattle.ags_cells.specs.declared.time_unit.TimeUnit.TheVariants as Units
use Rattle.ags_cells.proofs.TimeReaders.{elapsed_minutes, elapsed_seconds}
use Rattle.ags_cells.proofs.UnitLemmas.{timed, dated, wholly}
use Rattle.ags_cells.proofs.time.fits_elapsed_time.Goals as goal

pub returns-in-Minutes : goal.returns-in-Minutes
returns-in-Minutes c =
    timed (DigitsOf 2 4) c.args.unit.now c.args.text.now Units.Minutes _ c.in-Minutes.ensures
    (wholly after_elapsed_minutes elapsed_minutes tt c.args.text.now _ _ c.is_whole.ensures c.after_elapsed_minutes.ensures)

pub returns-in-Seconds : goal.returns-in-Seconds
returns-in-Seconds c =
    timed (DigitsOf 2 4) c.args.unit.now c.args.text.now Units.Seconds _ c.in-Seconds.ensures
    (wholly after_elapsed_seconds elapsed_seconds tt c.args.text.now _ _ c.is_whole-in-Seconds.ensures c.after_elapsed_seconds.ensures)

pub returns-in_default : goal.returns-in_default
returns-in_default c =
    timed (DigitsOf 2 4) c.args.unit.now c.args.text.now c.of.result _ c.of.ensures
    (Decides-at _ _ c.fits_dated.ensures (dated (DigitsOf 2 4) c.of.result c.args.text.now c.in_default.not-Minutes c.in_default.not-Seconds))
