use Rattle.std.proofs.lemmas.Result.{on_ok_weaker}
use Rattle.reg_tables.proofs.QuietLaws.{clean_before}
use Rattle.reg_tables.proofs.CreateLemmas.{third_ran}
use Rattle.reg_tables.proofs.open.new_tables.create_withdrawals.Goals as goal

pub returns-clause-made : goal.returns-clause-made
returns-clause-made g c clean =
    let first = c.requires.schema (clean_before _ _ c.run.ensures.survives clean) in
    on_ok_weaker c.run.result (third_ran _ _ first) (c.run.ensures.ran clean)
