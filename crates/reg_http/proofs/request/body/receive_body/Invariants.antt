use Rattle.std.proofs.Common.{◌-◌, ◌+◌, ◌≡◌, ◌≤◌, false, length, vec_len}
use Rattle.reg_http.specs.Tallies.{calls_of, tally_has_failed, tally_inner}
use Rattle.reg_http.proofs.BodyLemmas.{HasRead}
use Rattle.reg_http.proofs.request.body.receive_body.Given as goal

abbrev pub invariant-reads : goal.invariant-reads
invariant-reads g l = record {
  in_range : length l.body.items ≤ l.length;
  long : vec_len l.body ≡ length l.body.items;
  wide : length l.chunk ≡ 4096;
  no_fault : tally_has_failed l.reader ≡ false;
  counted : calls_of l.reader ≤ calls_of l.initial.reader + length l.body.items;
  read : HasRead (g.R.Read.remaining (tally_inner l.initial.reader)) (g.R.Read.remaining (tally_inner l.reader)) l.early l.length l.body.items;
}

abbrev pub decreases-reads : goal.decreases-reads
decreases-reads g l = l.length - vec_len l.body
