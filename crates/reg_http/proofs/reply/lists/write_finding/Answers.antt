use Rattle.std.proofs.Common.{codes, decimal}
use Rattle.json.specs.Print.{escape}
use Rattle.ags_rows.specs.Codes.{code_text}
use Rattle.ags_rows.specs.FindingLists.{finding_of}
use Rattle.reg_http.specs.Bodies.{printed}
use Rattle.reg_http.proofs.SendingLemmas.{last_piece, finding_pieces, finding_line}
use Rattle.reg_http.proofs.reply.lists.write_finding.Goals as goal

pub returns : goal.returns
returns c =
    let found = finding_of c.args.finding in
    let code = rw c.text.ensures.text at c.in_ok-write_both.ensures in
    last_piece c.extend_from_slice-3.result _ _ _ c.extend_from_slice-3.ensures.items (λ last. finding_line found _ _
    (finding_pieces c.args.out.now.items (codes "{\"code\":\"") (code_text found.code) (codes "\",\"line\":") (decimal found.line) (codes ",\"subject\":\"") (escape (printed found.subject)) (codes "\"}") _ _ _ _ _ _
    code c.in_ok-extend_from_slice.ensures.items c.in_ok-write_number.ensures c.in_ok-extend_from_slice-2.ensures.items c.in_ok-write_subject.ensures last))
