use Rattle.std.proofs.Common.{codes, decimal}
use Rattle.std.specs.Prelude.{string_bytes}
use Rattle.reg_http.proofs.SendingLemmas.{last_piece, five_pieces}
use Rattle.reg_http.proofs.reply.push_fields.Goals as goal

pub returns : goal.returns
returns c =
    last_piece c.push_str-4.result _ _ _ c.push_str-4.ensures.bytes
    (five_pieces (string_bytes c.args.text.now) (codes "Content-Type: ") c.args.kind.now (codes "\r\nContent-Length: ") (decimal c.args.length) (codes "\r\nConnection: close\r\n\r\n") _ _ _ _ _
    c.in_ok-push_str.ensures.bytes c.in_ok-push_str-2.ensures.bytes c.in_ok-push_str-3.ensures.bytes c.in_ok-write.ensures.bytes)
