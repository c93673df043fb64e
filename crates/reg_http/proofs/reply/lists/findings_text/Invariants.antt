use Rattle.std.proofs.Common.{◌≡◌, codes, map, take}
use Rattle.reg_http.specs.Bodies.{finding_data}
use Rattle.reg_http.proofs.SendingLemmas.{list_front}
use Rattle.reg_http.proofs.reply.lists.findings_text.Given as goal

abbrev pub invariant-loop-place : goal.invariant-loop-place
invariant-loop-place l = l.out.items ≡ list_front (codes "findings") (map finding_data (take l.place l.findings))
