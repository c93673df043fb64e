use Rattle.std.proofs.Common.{◌-◌, ◌≡◌, ◌≤◌, false, length, take}
use Rattle.std.specs.Io.KnownBytes.{Consumes}
use Rattle.reg_http.specs.Heads.{HasNoFewRequest}
use Rattle.reg_http.specs.Tallies.{calls_of, tally_has_failed, tally_inner}
use Rattle.reg_http.proofs.request.head.receive_head.Given as goal

abbrev pub invariant-reads : goal.invariant-reads
invariant-reads g l = record {
  in_range : l.filled ≤ length l.buf;
  long : length l.buf ≡ 8192;
  wide : length l.headers ≡ 32;
  no_fault : tally_has_failed l.reader ≡ false;
  counted : calls_of l.reader ≤ l.filled;
  taken : Consumes (g.R.Read.remaining (tally_inner l.initial.reader)) (g.R.Read.remaining (tally_inner l.reader)) (take l.filled l.buf);
  none_yet : HasNoFewRequest (take l.filled l.buf);
}

abbrev pub decreases-reads : goal.decreases-reads
decreases-reads g l = length l.initial.buf - l.filled
