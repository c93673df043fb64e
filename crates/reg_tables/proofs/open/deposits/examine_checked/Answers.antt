use Rattle.std.proofs.Common.{rules, ◌≡◌, true, false, sym, subst}
use Rattle.sqlite.specs.Tree.{IsAscending}
use Rattle.sqlite.specs.Held.{state}
use Rattle.ags_links.specs.Steps.{IsBefore}
use Rattle.reg_store.specs.Fit.{kept_rows}
use Rattle.reg_tables.proofs.MethodsLaws.{graph_ascends}
use Rattle.reg_tables.proofs.QuietLaws.{quiet_none}
use Rattle.reg_tables.proofs.ExamineLemmas.{file_tests}
use Rattle.reg_tables.proofs.open.deposits.examine_checked.Goals as goal

pub examine_file-requires-clause-rising : goal.examine_file-requires-clause-rising
examine_file-requires-clause-rising g c =
    let file = c.args.file.now in
    let same : c.steps.result.now ≡ file.graph.steps = search rules in
    subst (IsAscending IsBefore) (sym same) (graph_ascends file c.requires.clean.graph)

pub returns-then-branch-clause-tested : goal.returns-then-branch-clause-tested
returns-then-branch-clause-tested g c clean =
    let file = c.args.file.now in
    let is : c.in_ok-examine_file.field-0 ≡ true = search rules in
    let lines : c.deref-2.result.now ≡ kept_rows file.groups = search rules in
    let steps : c.steps.result.now ≡ file.graph.steps = search rules in
    file_tests (state g.S.Store c.args.conn.now).now c.args.number c.deref-2.result.now (kept_rows file.groups) c.steps.result.now file.graph.steps is lines steps (c.in_ok-examine_file.ensures.tested clean)

pub returns-then-branch-clause-quiet : goal.returns-then-branch-clause-quiet
returns-then-branch-clause-quiet g c = c.in_ok-examine_file.ensures.quiet

pub returns-clause-tested : goal.returns-clause-tested
returns-clause-tested g c clean =
    let file = c.args.file.now in
    let is : c.in_ok-examine_file.field-0 ≡ false = search rules in
    let lines : c.deref-2.result.now ≡ kept_rows file.groups = search rules in
    let steps : c.steps.result.now ≡ file.graph.steps = search rules in
    file_tests (state g.S.Store c.args.conn.now).now c.args.number c.deref-2.result.now (kept_rows file.groups) c.steps.result.now file.graph.steps is lines steps (c.in_ok-examine_file.ensures.tested clean)

pub returns-clause-quiet : goal.returns-clause-quiet
returns-clause-quiet g c = c.in_ok-examine_file.ensures.quiet

pub returns-in_err-lines-clause-quiet : goal.returns-in_err-lines-clause-quiet
returns-in_err-lines-clause-quiet g c = quiet_none (state g.S.Store c.args.conn.now) _ c.requires.idle.idle

pub returns-in_err-known-clause-quiet : goal.returns-in_err-known-clause-quiet
returns-in_err-known-clause-quiet g c = quiet_none (state g.S.Store c.args.conn.now) _ c.requires.idle.idle
