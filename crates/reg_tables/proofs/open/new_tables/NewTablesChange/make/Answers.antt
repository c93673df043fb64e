use Rattle.std.proofs.Common.{arith}
use Rattle.std.proofs.lemmas.Result.{on_ok_weaker}
use Rattle.sqlite.specs.State.{HasCleanDisk}
use Rattle.sqlite.specs.Held.{state}
use Rattle.reg_tables.proofs.CreateLemmas.{all_ran}
use Rattle.reg_tables.proofs.open.new_tables.NewTablesChange.make.Goals as goal

pub returns-clause-made : goal.returns-clause-made
returns-clause-made g c clean =
    let old = state g.S.Store c.args.tx.now.conn.now in
    let mid = state g.S.Store c.create_first.new.tx.conn.now in
    let four = state g.S.Store c.create_second.new.tx.conn.now in
    let last = state g.S.Store c.create_withdrawals.new.tx.conn.now in
    let new = state g.S.Store c.run.new.tx.conn.now in
    let late : HasCleanDisk last = omega (arith, c.run.ensures.survives.clean) in
    let later : HasCleanDisk four = omega (arith, c.create_withdrawals.ensures.survives.clean) in
    let early : HasCleanDisk mid = omega (arith, c.create_second.ensures.survives.clean) in
    on_ok_weaker c.run.result (all_ran c.args.self.now.dictionary.now old mid four last new (c.in_ok-create_first.ensures.made early) (c.in_ok-create_second.ensures.made later) (c.in_ok-create_withdrawals.ensures.made late))
    (rw c.params-to_sql.ensures at (c.run.ensures.ran clean))
