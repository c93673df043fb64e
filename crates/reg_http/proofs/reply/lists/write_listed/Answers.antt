use Rattle.std.proofs.Common.{◌≡◌, rules, codes, decimal}
use Rattle.reg_http.proofs.SendingLemmas.{last_piece, listed_pieces, deposit_line}
use Rattle.reg_http.proofs.reply.lists.write_listed.Goals as goal

pub returns : goal.returns
returns c =
    let listed = c.args.listed.now in
    let name : c.as_bytes.result.now ≡ listed.firm = search rules in
    let firm = rw name at c.in_ok-write_both-2.ensures in
    last_piece c.extend_from_slice-2.result _ _ _ c.extend_from_slice-2.ensures.items (λ last. deposit_line c.text-day.result listed _ _ c.text-day.ensures.written c.text-firm.ensures.is_name
    (listed_pieces c.args.out.now.items (codes "{\"embargo\":\"") c.text-day.result (codes "\",\"firm\":\"") listed.firm (codes "\",\"number\":") (decimal listed.number) (codes "}") _ _ _ _ _
    c.in_ok-write_both.ensures firm c.in_ok-extend_from_slice.ensures.items c.in_ok-write_number.ensures last))
