use Rattle.std.proofs.Common.{arith}
use Rattle.ags_links.proofs.Looks.{look_over_next, look_marks_next}
use Rattle.ags_links.proofs.closure.look.Goals as goal
use Rattle.ags_links.proofs.closure.look.Goals.{then-not-marks-target+in_ok-push, else-not-marks-target}

pub loop-target-preserved : goal.loop-target-preserved
loop-target-preserved c =
    record {
      looked = elim c.if-not-marks-target.branch [
        | then-not-marks-target+in_ok-push w ↦ rw (w.marks-is, w.work-is, w.in_ok-push.ensures.items) (look_marks_next _ _ _ _ _ _ c.loop-target-test.true c.loop-target.invariant.looked (omega (arith, c.requires.rows c.loop-target.target-index 0 c.loop-target-test.true)) w.if-not-marks-target.true)
        | else-not-marks-target w ↦ rw (w.marks-is, w.work-is) (look_over_next _ _ _ _ _ _ c.loop-target-test.true c.loop-target.invariant.looked w.if-not-marks-target.false)
      ];
      turns = omega arith;
    }
