use Rattle.reg_policy.proofs.DayTexts as texts
use Rattle.reg_policy.proofs.laws.one_text_of_day.Goals as goal

pub returns : goal.returns
returns c = texts.one_text_of_day
