use Rattle.reg_http.proofs.RenderLemmas.{receipt_with}
use Rattle.reg_http.proofs.reply.answer.receipt_value.Goals as goal

pub returns : goal.returns
returns c = receipt_with _ _ _ _ c.dated_value.result c.text-day.ensures.written c.as_text.ensures c.dated_value.ensures
