use Rattle.std.proofs.Common.{rules, ◌++◌, ap, ◌∙◌}
use Rattle.reg_http.proofs.PlainLemmas.{shown_plain, shown_quote, shown_slash}
use Rattle.reg_http.proofs.reply.lists.write_shown.Goals as goal

pub returns-in_ok-extend_from_slice-in-34 : goal.returns-in_ok-extend_from_slice-in-34
returns-in_ok-extend_from_slice-in-34 c =
    c.in_ok-extend_from_slice-in-34.ensures.items ∙ ap (λ t. c.args.out.now.items ++ t) (shown_quote c.args.byte c.printed_byte.result c.printed_byte.ensures c.in-34.is)

pub returns-in_ok-extend_from_slice-in-92 : goal.returns-in_ok-extend_from_slice-in-92
returns-in_ok-extend_from_slice-in-92 c =
    c.in_ok-extend_from_slice-in-92.ensures.items ∙ ap (λ t. c.args.out.now.items ++ t) (shown_slash c.args.byte c.printed_byte.result c.printed_byte.ensures c.in-92.is)

pub returns-in_ok-push-in_default : goal.returns-in_ok-push-in_default
returns-in_ok-push-in_default c =
    c.in_ok-push-in_default.ensures.items ∙ ap (λ t. c.args.out.now.items ++ t) (shown_plain c.args.byte c.printed_byte.result c.printed_byte.ensures (search rules) (search rules))
