use Rattle.std.proofs.Common.{arith}
use Rattle.std.proofs.lemmas.Result.{on_ok_weaker}
use Rattle.sqlite.specs.State.{HasCleanDisk}
use Rattle.sqlite.specs.Held.{state}
use Rattle.reg_tables.proofs.InsertsLaws.{puts_mark}
use Rattle.reg_tables.proofs.write.mark.NewMarkChange.make.Goals as goal

pub returns-clause-made : goal.returns-clause-made
returns-clause-made g c clean =
    let old = state g.S.Store c.args.tx.now.conn.now in
    let new = state g.S.Store c.run.new.tx.conn.now in
    let first : HasCleanDisk old = omega (arith, c.run.ensures.survives.clean) in
    on_ok_weaker c.run.result (λ one. (let put = puts_mark old new c.args.self.now.number one.count (c.requires.schema first) one.ran in record { change = record { change = put; sound = put.sound }; goes_on = one.goes_on; is_open = one.is_open; committed = one.committed }))
    (rw c.params-to_sql.ensures at (c.run.ensures.ran clean))
