use Rattle.std.proofs.Common.{arith}
use Rattle.std.proofs.lemmas.Result.{on_ok_weaker}
use Rattle.sqlite.specs.State.{HasCleanDisk}
use Rattle.sqlite.specs.Held.{state}
use Rattle.reg_tables.specs.Private.Filed.{filed_deposit}
use Rattle.reg_tables.proofs.InsertsLaws.{puts_deposit}
use Rattle.reg_tables.proofs.write.filed.Filed.insert_row.Goals as goal

pub returns-clause-put : goal.returns-clause-put
returns-clause-put g c clean =
    let old = state g.S.Store c.args.tx.now.conn.now in
    let new = state g.S.Store c.run.new.tx.conn.now in
    let first : HasCleanDisk old = omega (arith, c.run.ensures.survives.clean) in
    let filed = c.args.self.now in
    on_ok_weaker c.run.result (λ one. record { change = puts_deposit old new filed.number (filed_deposit filed) one.count (c.requires.schema first) one.ran; goes_on = one.goes_on; is_open = one.is_open; committed = one.committed }) (rw (c.params-to_sql.ensures, c.params-to_sql-2.ensures, c.params-to_sql-3.ensures, c.params-to_sql-4.ensures, c.params-to_sql-5.ensures) at (c.run.ensures.ran clean))
