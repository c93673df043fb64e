use Rattle.std.proofs.Common.{take, false}
use Rattle.sqlite.specs.State.{HasCleanDisk}
use Rattle.sqlite.specs.Held.{state}
use Rattle.reg_tables.specs.Private.Digests.{HasNoEqual}
use Rattle.reg_tables.specs.Quiet.{IsIdle, IsStill}
use Rattle.reg_tables.proofs.read.equal.read_equal.Given as goal

abbrev pub invariant-loop-number : goal.invariant-loop-number
invariant-loop-number g l =
    let old = state g.S.Store l.fn.conn in
    let now = state g.S.Store l.conn in
    record {
      idle : IsIdle now;
      still : IsStill old now false;
      none : HasCleanDisk now → HasNoEqual old.now (take l.number-index l.numbers) l.firm l.project l.bytes;
    }
