use Rattle.std.proofs.Common.{rules, ◌≡◌, ◌+◌, Some, slice_get}
use Rattle.reg_tables.specs.Rows.{number_row}
use Rattle.reg_tables.proofs.MarksLemmas.{matched_no, matched_yes}
use Rattle.reg_tables.proofs.open.marks.marks_in.Goals.{then-is_mark+in_ok-push, else-is_mark+in_ok-push-2}
use Rattle.reg_tables.proofs.open.marks.marks_in.Goals as goal

pub loop-at-preserved : goal.loop-at-preserved
loop-at-preserved c =
    let rows = c.args.rows.now in
    let at = c.loop-at.at in
    elim c.if-is_mark.branch [
      | then-is_mark+in_ok-push w ↦
          (let here : slice_get rows c.loop-at.next ≡ Some (number_row (at + 1)) = search rules in
          let more = matched_yes rows c.args.count at c.loop-at.next c.loop-at.marks.items c.loop-at.invariant c.loop-at-test.true here in
          search (rules, more))
      | else-is_mark+in_ok-push-2 w ↦
          (let none : slice_get rows c.loop-at.next ≡ Some (number_row (at + 1)) → ⊥ = λ here. search (rules, here) in
          let more = matched_no rows c.args.count at c.loop-at.next c.loop-at.marks.items c.loop-at.invariant c.loop-at-test.true none in
          search (rules, more))
    ]
