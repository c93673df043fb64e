use Rattle.std.proofs.Common.{rules, codes}
use Rattle.reg_http.proofs.SendingLemmas.{begun, findings_begin, findings_more, findings_text_is}
use Rattle.reg_http.proofs.reply.lists.findings_text.Goals as goal

pub loop-place-init : goal.loop-place-init
loop-place-init c = begun (codes "findings") _ _ _ c.in_ok-out.ensures.items c.in_ok-extend_from_slice.ensures.items findings_begin

pub loop-place-preserved : goal.loop-place-preserved
loop-place-preserved c = findings_more c.args.findings.now c.loop-place.place _ _ _ _ c.at.ensures c.loop-place.invariant c.in_ok-write_comma.ensures c.in_ok-write_finding.ensures

pub returns : goal.returns
returns c = findings_text_is c.args.findings.now c.loop-place.place _ _ (search rules) c.loop-place.invariant c.in_ok-extend_from_slice-2.ensures.items
