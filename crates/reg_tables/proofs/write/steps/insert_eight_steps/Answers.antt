use Rattle.std.proofs.Common.{arith, ◌≡◌, ap, ◌∙◌}
use Rattle.std.proofs.lemmas.Result.{on_ok_weaker}
use Rattle.sqlite.specs.State.{HasCleanDisk}
use Rattle.sqlite.specs.Held.{state}
use Rattle.sqlite.specs.Values.{bound}
use Rattle.reg_tables.specs.Rows.{joined, step_rows}
use Rattle.reg_tables.proofs.InsertsLaws.{puts_eight_steps}
use Rattle.reg_tables.proofs.write.steps.insert_eight_steps.Goals as goal

pub returns-clause-put : goal.returns-clause-put
returns-clause-put g c clean =
    let old = state g.S.Store c.args.tx.now.conn.now in
    let new = state g.S.Store c.run.new.tx.conn.now in
    let first : HasCleanDisk old = omega (arith, c.run.ensures.survives.clean) in
    let given : bound c.as_flattened.result.now ≡ joined (step_rows c.args.number c.args.steps.now) = ap bound c.as_flattened.ensures.value ∙ c.step_values-values.ensures in
    on_ok_weaker c.run.result (λ one. record { change = puts_eight_steps old new c.args.number c.args.steps.now one.count c.requires.eight (c.requires.schema first) one.ran; goes_on = one.goes_on; is_open = one.is_open; committed = one.committed }) (rw given at (c.run.ensures.ran clean))
