use Rattle.std.proofs.Common.{rules, ◌≡◌, true, false, map, refl}
use Rattle.sqlite.specs.Effect.{Database}
use Rattle.sqlite.specs.Held.{state}
use Rattle.std.specs.List.Sorted.{IsPermutation}
use Rattle.reg_tables.specs.Rows.{rows_under, step_table, step_pair}
use Rattle.reg_tables.proofs.QuietLaws.{clean_before, idle_then, quiet_then}
use Rattle.reg_tables.proofs.ExamineLemmas.{tests_false, tests_first, tests_later, tests_true}
use Rattle.reg_tables.proofs.QueryLemmas.{passed_quiet}
use Rattle.reg_tables.proofs.open.deposits.examine_file.Goals as goal

pub examine_steps-requires-clause-idle : goal.examine_steps-requires-clause-idle
examine_steps-requires-clause-idle g c = idle_then _ _ c.requires.idle c.in_ok-examine_lines.ensures.quiet

pub returns-then-branch-clause-tested : goal.returns-then-branch-clause-tested
returns-then-branch-clause-tested g c clean =
    let mid = state g.S.Store c.examine_lines.new.conn in
    let early = clean_before mid (state g.S.Store c.examine_steps.new.conn) c.examine_steps.ensures.quiet.survives clean in
    let is : c.in_ok-examine_lines.field-0 ≡ true = search rules in
    let first = tests_true is (c.in_ok-examine_lines.ensures.tested early) in
    tests_later c.examine_steps.result _ (λ (db : Database). IsPermutation (map step_pair c.args.steps.now) (rows_under c.args.number (step_table db.trees))) (state g.S.Store c.args.conn.now).now mid.now (c.in_ok-examine_lines.ensures.quiet.same early refl).0 first (c.examine_steps.ensures.tested clean)

pub returns-then-branch-clause-quiet : goal.returns-then-branch-clause-quiet
returns-then-branch-clause-quiet g c = quiet_then _ _ _ _ c.requires.idle.idle c.in_ok-examine_lines.ensures.quiet c.examine_steps.ensures.quiet

pub returns-else-branch-clause-tested : goal.returns-else-branch-clause-tested
returns-else-branch-clause-tested g c clean = let no : c.in_ok-examine_lines.field-0 ≡ false = search rules in tests_first _ _ (tests_false no (c.in_ok-examine_lines.ensures.tested clean))

pub returns-else-branch-clause-quiet : goal.returns-else-branch-clause-quiet
returns-else-branch-clause-quiet g c = c.in_ok-examine_lines.ensures.quiet

pub returns-in_err-examine_lines-clause-quiet : goal.returns-in_err-examine_lines-clause-quiet
returns-in_err-examine_lines-clause-quiet g c = passed_quiet _ _ c.from_residual.result _ c.from_residual.ensures.1 c.in_err-examine_lines.ensures.quiet
