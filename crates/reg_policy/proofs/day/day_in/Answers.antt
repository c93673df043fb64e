use Rattle.std.proofs.Common.{arith, FitsSigned, ◌∙◌, ◌≡◌, sym, w32, None, Some}
use Rattle.std.proofs.lemmas.Int.{ints, to_z-of_z}
use Rattle.reg_policy.proofs.Days.{read_day, no_day}
use Rattle.reg_policy.proofs.day.day_in.Goals as goal

pub returns-in_err-day_number : goal.returns-in_err-day_number
returns-in_err-day_number c =
    let w = (c.read_parts.ensures c.in_ok-year.year c.in_ok-year.month c.in_ok-year.day).0 c.in_ok-year.was in
    let k = c.in_err-day_number.was in
    (λ n. (
      λ e. let z : None ≡ Some n = sym c.from_residual-in_err-day_number.ensures ∙ e in cc,
      λ p. absurd (no_day c.args.text.now c.in_ok-year.year c.in_ok-year.month c.in_ok-year.day w
          (λ m date. let f = (c.day_number.ensures.number m).1 date in let g : None ≡ Some m = sym k ∙ f in cc) n p),
    ))

pub returns : goal.returns
returns c =
    let y = c.in_ok-year.year in
    let m = c.in_ok-year.month in
    let d = c.in_ok-year.day in
    let k = c.in_ok-day_number.field-0 in
    let b = c.in_ok-day_number.ensures.in_range in
    let fits : FitsSigned w32 k = omega (arith, ints, b) in
    let e = to_z-of_z w32 k fits in
    let date = (c.day_number.ensures.number k).0 c.in_ok-day_number.was in
    (read_day c.args.text.now c.read_parts.result y m d k c.new.result c.read_parts.ensures c.in_ok-year.was date
    (rw e at c.new.ensures.some) (rw e at c.new.ensures.value))

pub day_number-requires-clause-year_in : goal.day_number-requires-clause-year_in
day_number-requires-clause-year_in c =
    ((c.read_parts.ensures c.in_ok-year.year c.in_ok-year.month c.in_ok-year.day).0 c.in_ok-year.was).0

pub day_number-requires-clause-month_in : goal.day_number-requires-clause-month_in
day_number-requires-clause-month_in c =
    ((c.read_parts.ensures c.in_ok-year.year c.in_ok-year.month c.in_ok-year.day).0 c.in_ok-year.was).1

pub day_number-requires-clause-day_in : goal.day_number-requires-clause-day_in
day_number-requires-clause-day_in c =
    ((c.read_parts.ensures c.in_ok-year.year c.in_ok-year.month c.in_ok-year.day).0 c.in_ok-year.was).2
