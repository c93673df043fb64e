use Rattle.ags_rows.specs.Collecting.{Adds, AmongBefore, OneOf}
use Rattle.ags_rows.specs.Stands.{row_rules}
use Rattle.ags_rows.proofs.ordering.note_order.Given as goal

abbrev pub invariant-loop-place : goal.invariant-loop-place
invariant-loop-place l = Adds (AmongBefore l.rows (λ place row. OneOf (row_rules l.rows place row)) l.place) l.initial.findings l.findings
