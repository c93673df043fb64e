use Rattle.std.proofs.Common.{◌≡◌, ◌-◌, length, take, drop, arith}
use Rattle.std.proofs.lemmas.List.{take_all, length-drop}
use Rattle.std.proofs.lemmas.Grind.{common_steps}
use Rattle.reg_http.proofs.WriteLemmas.{Appends-more}
use Rattle.reg_http.proofs.tally.write_text.Goals as goal

pub writes-preserved : goal.writes-preserved
writes-preserved g c =
    let left = length-drop c.writes.written c.args.text.now in
    let rest : take (length c.args.text.now - c.writes.written) (drop c.writes.written c.args.text.now) ≡ drop c.writes.written c.args.text.now =
    take_all _ (drop c.writes.written c.args.text.now) (omega arith) in
    let w = rw rest at c.in-Ok.ensures in
    record {
      in_range = omega (arith, w.bound);
      no_fault = grind (arith, common_steps, w.failed);
      taken = Appends-more _ _ _ c.args.text.now c.writes.written c.in-Ok.count c.writes.invariant.taken w.bytes;
    }
