use Rattle.std.proofs.lemmas.Result.{on_ok_weaker}
use Rattle.reg_tables.proofs.QuietLaws.{clean_before}
use Rattle.reg_tables.proofs.CreateLemmas.{first_ran}
use Rattle.reg_tables.proofs.open.new_tables.create_first.Goals as goal

pub returns-clause-made : goal.returns-clause-made
returns-clause-made g c clean =
    let late = clean_before _ _ c.run-2.ensures.survives clean in
    let first = c.requires.schema (clean_before _ _ c.run.ensures.survives late) in
    on_ok_weaker c.run-2.result (first_ran _ _ _ first (c.in_ok-run.ensures.ran late)) (c.run-2.ensures.ran clean)
