use Rattle.std.proofs.Common.{◌≡◌, length, refl, arith}
use Rattle.ags_links.specs.Indexing.{rows_in}
use Rattle.ags_links.proofs.Stepping.{count_more, steps_all}
use Rattle.ags_links.proofs.graph.step_count.Goals as goal

pub loop-row-preserved : goal.loop-row-preserved
loop-row-preserved c = record {
  steps = count_more c.args.index.now c.loop-row.row c.loop-row.count c.in_ok-count.field-0 c.loop-row.invariant.steps c.in_ok-count.ensures.steps;
  few = omega (arith, c.loop-row.invariant.few, c.in_ok-count.ensures.few);
}

pub returns : goal.returns
returns c =
    let so_far = c.loop-row.invariant.steps in
    let all : c.loop-row.row ≡ length (rows_in c.args.index.now) = omega (arith, c.loop-row.auto.row-end, c.loop-row-test.false, c.row_count-row-end.ensures) in
    (record { rows = length (rows_in c.args.index.now); steps = so_far.0 }, record { rows = refl; steps = steps_all c.args.index.now so_far.0 c.loop-row.row all so_far.1 }, so_far.2)
