use Rattle.std.proofs.Common.{refl}
use Rattle.ags_cells.specs.Readers.{after_decimal, after_significant, after_scientific, after_moisture, after_angle}
use Rattle.ags_cells.specs.declared.cell_type.CellType.TheVariants.{DecimalPlaces, SignificantFigures, Scientific, MoistureContent, DegreesMinutesSeconds}
use Rattle.ags_cells.proofs.NumberReaders.{decimal, significant, scientific, moisture, angle}
use Rattle.ags_cells.proofs.UnitLemmas.{wholly, fitted, not_null}
use Rattle.ags_cells.proofs.fitting.fits.Goals as goal

pub returns-in-DecimalPlaces : goal.returns-in-DecimalPlaces
returns-in-DecimalPlaces c =
    rw c.in-DecimalPlaces.is
    (fitted (DecimalPlaces c.in-DecimalPlaces.places) c.args.unit.now c.args.cell.now _ (not_null c.args.cell.now c.if-is_empty.ensures)
    (wholly (after_decimal c.in-DecimalPlaces.places) (decimal c.in-DecimalPlaces.places) tt c.args.cell.now _ _ c.is_whole.ensures c.after_decimal.ensures))

pub returns-in-SignificantFigures : goal.returns-in-SignificantFigures
returns-in-SignificantFigures c =
    rw c.in-SignificantFigures.is
    (fitted (SignificantFigures c.in-SignificantFigures.field-0) c.args.unit.now c.args.cell.now _ (not_null c.args.cell.now c.if-is_empty.ensures)
    (wholly after_significant significant refl c.args.cell.now _ _ c.is_whole-in-SignificantFigures.ensures c.after_significant.ensures))

pub returns-in-Scientific : goal.returns-in-Scientific
returns-in-Scientific c =
    rw c.in-Scientific.is
    (fitted (Scientific c.in-Scientific.places) c.args.unit.now c.args.cell.now _ (not_null c.args.cell.now c.if-is_empty.ensures)
    (wholly (after_scientific c.in-Scientific.places) (scientific c.in-Scientific.places) tt c.args.cell.now _ _ c.is_whole-in-Scientific.ensures c.after_scientific.ensures))

pub returns-in-MoistureContent : goal.returns-in-MoistureContent
returns-in-MoistureContent c =
    rw c.in-MoistureContent.is
    (fitted MoistureContent c.args.unit.now c.args.cell.now _ (not_null c.args.cell.now c.if-is_empty.ensures)
    (wholly after_moisture moisture tt c.args.cell.now _ _ c.is_whole-in-MoistureContent.ensures c.after_moisture.ensures))

pub returns-in-DegreesMinutesSeconds : goal.returns-in-DegreesMinutesSeconds
returns-in-DegreesMinutesSeconds c =
    rw c.in-DegreesMinutesSeconds.is
    (fitted DegreesMinutesSeconds c.args.unit.now c.args.cell.now _ (not_null c.args.cell.now c.if-is_empty.ensures)
    (wholly after_angle angle tt c.args.cell.now _ _ c.is_whole-in-DegreesMinutesSeconds.ensures c.after_angle.ensures))
