use Rattle.ags_check.proofs.Fronts.{stripped}
use Rattle.ags_check.proofs.header.headings.after_front.Goals as goal

pub returns : goal.returns
returns c = stripped c.args.text.now c.args.front.now c.strip_prefix.result c.strip_prefix.ensures.cases
