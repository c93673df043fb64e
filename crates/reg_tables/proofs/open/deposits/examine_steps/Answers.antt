use Rattle.std.proofs.Common.{rules, arith, ◌≡◌, map, subst}
use Rattle.sqlite.specs.State.{HasCleanDisk}
use Rattle.sqlite.specs.Held.{state}
use Rattle.reg_tables.proofs.MeaningLaws.{steps_read}
use Rattle.reg_tables.specs.Rows.{step_pair}
use Rattle.reg_tables.specs.Whole.{Compares}
use Rattle.reg_tables.proofs.CompareLemmas.{steps_compared}
use Rattle.reg_tables.proofs.open.deposits.examine_steps.Goals as goal

pub take_shown-requires-clause-plain : goal.take_shown-requires-clause-plain
take_shown-requires-clause-plain g c schema has = (steps_read schema has).plain

pub returns-clause-tested : goal.returns-clause-tested
returns-clause-tested g c clean =
    let old = state g.S.Store c.args.conn.now in
    let new = state g.S.Store c.take_shown.new.conn in
    let first : HasCleanDisk old = omega (arith, c.take_shown.ensures.quiet.survives.clean) in
    let shown = rw (c.params-to_sql.ensures) at (c.in_ok-take_shown.ensures.shown clean) in
    let into = c.take_shown.new.into in
    let same : into.steps.now ≡ c.args.steps.now = search (rules, shown.2.0) in
    let compared = subst (λ all. Compares (map step_pair all) into.at into.is shown.0) same shown.2.1 in
    steps_compared old new c.args.number c.args.steps.now into.at into.is c.are_all.result (c.requires.idle.schema first) c.requires.rising (shown.0, shown.1, compared) (search rules)
