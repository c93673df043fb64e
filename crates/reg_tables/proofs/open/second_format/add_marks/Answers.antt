use Rattle.std.proofs.lemmas.Result.{on_ok_weaker}
use Rattle.reg_tables.proofs.QuietLaws.{clean_before}
use Rattle.reg_tables.proofs.MigrateLemmas.{changes_tables}
use Rattle.reg_tables.proofs.open.second_format.add_marks.Goals as goal

pub returns-clause-changed : goal.returns-clause-changed
returns-clause-changed g c clean =
    let late = clean_before _ _ c.run.ensures.survives clean in
    on_ok_weaker c.run.result (changes_tables _ _ _ (c.in_ok-create_withdrawals.ensures.made late)) (c.run.ensures.ran clean)
