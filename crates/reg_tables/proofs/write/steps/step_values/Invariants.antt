use Rattle.std.proofs.Common.{◌≡◌, length, take}
use Rattle.std.specs.List.{flat_map}
use Rattle.sqlite.specs.Values.{bound}
use Rattle.reg_tables.specs.Rows.{joined, step_rows}
use Rattle.reg_tables.proofs.write.steps.step_values.Given as goal

-- the values of the steps so far
abbrev pub invariant-loop-i : goal.invariant-loop-i
invariant-loop-i l = record {
  eight : length l.values ≡ 8;
  values : bound (flat_map (λ v. v) (take l.i l.values)) ≡ joined (step_rows l.number (take l.i l.steps));
}
