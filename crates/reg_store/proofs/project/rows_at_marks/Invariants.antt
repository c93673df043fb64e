use Rattle.std.proofs.Common.{◌≡◌, ◌≤◌, ◌++◌, [], drop}
use Rattle.std.specs.List.{items_where_true}
use Rattle.reg_store.specs.Project.{headed_rows}
use Rattle.reg_store.proofs.project.rows_at_marks.Given as goal

abbrev pub invariant-loop-row : goal.invariant-loop-row
invariant-loop-row l = record {
  found : l.found.items ++ items_where_true (drop l.data l.marks) (headed_rows l.group l.headings (drop l.row-index l.rows)) ≡ items_where_true l.marks (headed_rows [] [] l.rows);
  few : l.data ≤ l.row-index;
}
