use Rattle.std.proofs.Common.{arith}
use Rattle.std.proofs.lemmas.Result.{on_ok_weaker}
use Rattle.sqlite.specs.State.{HasCleanDisk}
use Rattle.sqlite.specs.Held.{state}
use Rattle.reg_tables.proofs.InsertsLaws.{puts_step}
use Rattle.reg_tables.proofs.write.steps.insert_step.Goals as goal

pub returns-clause-put : goal.returns-clause-put
returns-clause-put g c clean =
    let old = state g.S.Store c.args.tx.now.conn.now in
    let new = state g.S.Store c.run.new.tx.conn.now in
    let first : HasCleanDisk old = omega (arith, c.run.ensures.survives.clean) in
    on_ok_weaker c.run.result (λ one. record { change = puts_step old new c.args.number c.args.step one.count (c.requires.schema first) one.ran; goes_on = one.goes_on; is_open = one.is_open; committed = one.committed }) (rw (c.params-to_sql.ensures, c.params-to_sql-2.ensures, c.params-to_sql-3.ensures) at (c.run.ensures.ran clean))
