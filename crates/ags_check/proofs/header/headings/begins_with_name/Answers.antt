use Rattle.ags_check.proofs.Fronts.{with_low_line}
use Rattle.ags_check.proofs.header.headings.begins_with_name.Goals as goal

pub returns-in-Some : goal.returns-in-Some
returns-in-Some c =
    rw c.is_some.ensures
    (with_low_line c.args.group.now c.args.heading.now c.in-Some.rest.now c.after_front-in-Some.result c.in-Some.ensures c.after_front-in-Some.ensures)
