use Rattle.std.proofs.Common.{◌≡◌, ◌≤◌, drop}
use Rattle.reg_store.specs.Project.{headed_rows, project_from, project_of}
use Rattle.reg_store.proofs.project.project_in.Given as goal

abbrev pub invariant-loop-row : goal.invariant-loop-row
invariant-loop-row l = record {
  found : project_from l.number (headed_rows l.group l.headings (drop l.row-index l.rows)) ≡ project_of l.rows;
  few : l.number ≤ l.row-index;
}
