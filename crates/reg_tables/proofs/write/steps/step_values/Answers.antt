use Rattle.std.proofs.Common.{arith, rules, ◌<◌, length, ◌∙◌}
use Rattle.std.proofs.lemmas.List.{length-set}
use Rattle.reg_tables.proofs.AddsLemmas.{values_flat, step_values_more}
use Rattle.reg_tables.proofs.write.steps.step_values.Goals as goal

pub loop-i-preserved : goal.loop-i-preserved
loop-i-preserved c =
    let i = c.loop-i.i in
    let low : i < length c.loop-i.values = omega (arith, c.loop-i-test.true, c.requires, c.loop-i.invariant.eight) in
    record {
      eight = length-set c.loop-i.values i c.step_value.result ∙ c.loop-i.invariant.eight;
      values = step_values_more c.args.number i c.args.steps.now _ _ _ (search rules) (search rules) c.loop-i.invariant.values (values_flat c.loop-i.values i c.step_value.result _ low c.step_value.ensures);
    }
