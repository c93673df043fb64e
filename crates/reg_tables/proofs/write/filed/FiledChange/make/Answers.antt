use Rattle.std.proofs.Common.{arith}
use Rattle.std.proofs.lemmas.Result.{on_ok_weaker}
use Rattle.sqlite.specs.State.{HasCleanDisk}
use Rattle.sqlite.specs.Held.{state}
use Rattle.reg_tables.specs.Private.Filed.{filed_deposit}
use Rattle.reg_tables.proofs.AddsLemmas.{file_then}
use Rattle.reg_tables.proofs.write.filed.FiledChange.make.Goals as goal

pub returns-clause-made : goal.returns-clause-made
returns-clause-made g c clean =
    let two : HasCleanDisk (state g.S.Store c.insert_lines.new.tx.conn.now) = omega (arith, c.insert_steps.ensures.survives.clean) in
    let one : HasCleanDisk (state g.S.Store c.insert_row.new.tx.conn.now) = omega (arith, two, c.insert_lines.ensures.survives.clean) in
    on_ok_weaker c.insert_steps.result
    (file_then c.args.self.now.number (filed_deposit c.args.self.now) c.args.self.now.rows.now c.args.self.now.steps.now (state g.S.Store c.args.tx.now.conn.now) _ _ (state g.S.Store c.insert_steps.new.tx.conn.now) (c.in_ok-insert_row.ensures.put one) (c.in_ok-insert_lines.ensures.put two))
    (c.insert_steps.ensures.put clean)
