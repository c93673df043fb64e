use Rattle.std.proofs.Common.{[], drop}
use Rattle.std.specs.List.{items_where_true}
use Rattle.reg_store.specs.Project.{headed_rows}
use Rattle.reg_store.proofs.ProjectLemmas.{marked_end}
use Rattle.reg_store.proofs.project.rows_at_marks.Goals as goal

pub returns : goal.returns
returns c =
    marked_end (drop c.loop-row.data c.args.marks.now) c.loop-row.found.items (items_where_true c.args.marks.now (headed_rows [] [] c.args.rows.now)) _ _ c.args.rows.now c.loop-row.row-index c.loop-row-test.false c.loop-row.invariant.found
