use Rattle.std.proofs.Common.{sym, ◌∙◌, arith, w8, w16}
use Rattle.std.proofs.lemmas.Bool.Decides.{same_from_decides}
use Rattle.std.proofs.lemmas.Int.{to_z_pos}
use Rattle.ags_cells.specs.Readers.{has_day}
use Rattle.ags_cells.proofs.DayReader.{has_day_Decides}
use Rattle.ags_cells.proofs.time.has_day.Goals as goal

pub returns : goal.returns
returns c =
    let year = to_z_pos w16 c.args.year (omega (arith, c.requires.year_in)) in
    let month = to_z_pos w8 c.args.month (omega (arith, c.requires.month_in)) in
    let day = to_z_pos w8 c.args.day (omega (arith, c.requires.day_in)) in
    let there = rw (year, month, day) at c.new.ensures.succeeds in
    let is = c.is_ok.ensures.value in
    same_from_decides c.is_ok.result (has_day c.args.year c.args.month c.args.day) (λ yes. there.0 (sym is ∙ yes), λ date. is ∙ there.1 date)
    (has_day_Decides c.args.year c.args.month c.args.day c.requires.year_in)
