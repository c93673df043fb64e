use Rattle.std.proofs.Common.{refl}
use Rattle.reg_desk.specs.declared.answer.Answer.TheVariants as answer
use Rattle.reg_http.proofs.RenderLemmas.{receipt_no_float, replied}
use Rattle.reg_http.proofs.reply.answer.receipt_reply.Goals as goal

pub value_reply-requires : goal.value_reply-requires
value_reply-requires c = receipt_no_float c.args.number c.args.embargo _ c.in_ok-value.ensures

pub returns : goal.returns
returns c = replied (answer.Receipt c.args.number c.args.embargo) _ c.value_reply.result (_, c.in_ok-value.ensures, refl) c.value_reply.ensures
