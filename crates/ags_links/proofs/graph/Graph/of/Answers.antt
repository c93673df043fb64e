use Rattle.std.proofs.Common.{◌≡◌, length, sym, subst, arith}
use Rattle.ags_links.specs.DataRows.{ListsRows}
use Rattle.ags_links.specs.Indexing.{rows_in}
use Rattle.ags_links.specs.Steps.{StepAt}
use Rattle.ags_links.specs.Walks.{InRange}
use Rattle.ags_links.proofs.Stepping.{steps_more, steps_all, steps_in_range}
use Rattle.ags_links.proofs.graph.Graph.of.Goals as goal

pub loop-row-preserved : goal.loop-row-preserved
loop-row-preserved c =
    steps_more c.args.index.now c.loop-row.row c.rows.result.now c.loop-row.steps.items c.add_steps.new.steps.items c.loop-row.invariant
    (subst (λ ts. ListsRows ts (StepAt c.args.index.now c.loop-row.row)) (sym c.rows.ensures) c.in_ok-targets.ensures) c.in_ok-add_steps.ensures

pub invariant_of-result : goal.invariant_of-result
invariant_of-result c =
    let last : c.loop-row.row ≡ c.row_count-rows.result = omega (arith, c.loop-row.auto.row-end, c.loop-row-test.false) in
    let all : c.loop-row.row ≡ length (rows_in c.args.index.now) = omega (arith, last, c.row_count-rows.ensures) in
    subst (λ rows. InRange rows c.loop-row.steps.items) last (steps_in_range c.args.index.now c.loop-row.steps.items c.loop-row.row all c.loop-row.invariant)

pub returns : goal.returns
returns c =
    let all : c.loop-row.row ≡ length (rows_in c.args.index.now) = omega (arith, c.loop-row.auto.row-end, c.loop-row-test.false, c.row_count-rows.ensures) in
    record { rows = c.row_count-rows.ensures; steps = steps_all c.args.index.now c.loop-row.steps.items c.loop-row.row all c.loop-row.invariant }
