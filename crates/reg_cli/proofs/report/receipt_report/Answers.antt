use Rattle.std.proofs.Common.{refl, ◌∙◌}
use Rattle.reg_cli.proofs.report.receipt_report.Goals as goal

pub returns : goal.returns
returns c = ((c.text-day.result, c.text-day.ensures.written, c.from_vec.ensures ∙ c.in_ok-text.ensures), refl)
