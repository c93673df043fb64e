use Rattle.ags_links.proofs.MarkedRows.{rows_over, rows_more}
use Rattle.std.proofs.Common.{arith}
use Rattle.ags_links.proofs.Marks.{marked_below}
use Rattle.ags_links.proofs.closure.marked_rows.Goals as goal
use Rattle.ags_links.proofs.closure.marked_rows.Goals.{then-marked+in_ok-push, else-marked}

pub loop-row-preserved : goal.loop-row-preserved
loop-row-preserved c = elim c.if-marked.branch [
  | then-marked+in_ok-push w ↦ rw (w.work-is, w.in_ok-push.ensures.items) (rows_more _ _ _ c.loop-row.invariant c.loop-row-test.true w.if-marked.true)
  | else-marked w ↦ rw w.work-is (rows_over _ _ _ c.loop-row.invariant c.loop-row-test.true w.if-marked.false)
]

pub returns-clause-all : goal.returns-clause-all
returns-clause-all c = λ r h. c.loop-row.invariant.all r (omega (arith, marked_below c.args.marks.now r h)) h
