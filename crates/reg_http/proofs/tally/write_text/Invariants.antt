use Rattle.std.proofs.Common.{◌-◌, ◌≡◌, ◌≤◌, false, length, take}
use Rattle.std.specs.Io.KnownBytes.{Appends}
use Rattle.reg_http.specs.Tallies.{tally_has_failed, tally_inner}
use Rattle.reg_http.proofs.tally.write_text.Given as goal

abbrev pub invariant-writes : goal.invariant-writes
invariant-writes g l = record {
  in_range : l.written ≤ length l.text;
  no_fault : tally_has_failed l.writer ≡ false;
  taken : Appends (g.W.Write.contents (tally_inner l.initial.writer)) (g.W.Write.contents (tally_inner l.writer)) (take l.written l.text);
}

abbrev pub decreases-writes : goal.decreases-writes
decreases-writes g l = length l.text - l.written
