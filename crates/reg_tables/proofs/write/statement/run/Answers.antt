use Rattle.std.proofs.Common.{arith}
use Rattle.sqlite.specs.State.{HasCleanDisk}
use Rattle.sqlite.specs.Held.{state}
use Rattle.reg_tables.proofs.write.statement.run.Goals as goal

pub returns-clause-ran : goal.returns-clause-ran
returns-clause-ran g c clean =
    let old = state g.S.Store c.args.tx.now.conn.now in
    let first : HasCleanDisk old = omega (arith, c.execute.ensures.survives.clean) in
    let one = c.in_ok-execute.ensures.runs clean (c.requires.inside first) in
    record { count = _; ran = one.0; goes_on = one.1.mode; is_open = one.1.is_open; committed = one.1.committed_is }
