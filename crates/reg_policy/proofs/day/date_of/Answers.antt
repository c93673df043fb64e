use Rattle.std.proofs.Common.{arith, FitsSigned, ◌∙◌, ap, unsigned_abs as nat_abs, w16, w32, w64}
use Rattle.std.proofs.lemmas.Int.{ints, to_z-of_z}
use Rattle.reg_policy.proofs.Days.{day_bounds, has_date}
use Rattle.reg_policy.proofs.day.date_of.Goals as goal

pub returns : goal.returns
returns c =
    let number : FitsSigned w32 c.args.number = omega (arith, ints, day_bounds c.args.number c.requires) in
    let wide = c.from.ensures ∙ to_z-of_z w32 c.args.number number in
    let fits : FitsSigned w64 c.from.result = omega (arith, ints, day_bounds c.args.number c.requires, wide) in
    let year : FitsSigned w16 c.in-Ok.date.year = omega (arith, ints, c.in-Ok.date.year_in) in
    let plain = c.unsigned_abs.ensures.value ∙ ap nat_abs (to_z-of_z w16 c.in-Ok.date.year year) in
    rw plain
    (has_date c.in-Ok.date c.args.number (c.in-Ok.ensures.value ∙ to_z-of_z w64 c.from.result fits ∙ wide) c.requires)
