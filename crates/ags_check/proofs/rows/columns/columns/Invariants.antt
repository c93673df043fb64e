use Rattle.std.proofs.Common.{◌≡◌, take, map, All}
use Rattle.ags_rows.specs.Contents.{group_contents}
use Rattle.ags_check.specs.Columns.{IsColumn}
use Rattle.ags_check.proofs.rows.columns.columns.Given as goal

abbrev pub invariant-loop-heading : goal.invariant-loop-heading
invariant-loop-heading l = record {
  each : All (IsColumn (group_contents l.group)) l.columns.items;
  heads : map (λ column. column.heading.now) l.columns.items ≡ map (λ heading. heading.now) (take l.heading-index l.headings);
}
