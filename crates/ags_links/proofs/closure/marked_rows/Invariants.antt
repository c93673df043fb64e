use Rattle.ags_links.proofs.MarkedRows.{RowsSoFar}
use Rattle.ags_links.proofs.closure.marked_rows.Given as goal

abbrev pub invariant-loop-row : goal.invariant-loop-row
invariant-loop-row l = RowsSoFar l.marks l.row l.work.items
