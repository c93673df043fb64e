use Rattle.reg_tables.proofs.MarksLemmas.{Matched}
use Rattle.reg_tables.proofs.open.marks.marks_in.Given as goal

abbrev pub invariant-loop-at : goal.invariant-loop-at
invariant-loop-at l = Matched l.rows l.count l.at l.next l.marks.items
