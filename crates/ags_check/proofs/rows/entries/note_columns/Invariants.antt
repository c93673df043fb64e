use Rattle.ags_rows.specs.Collecting.{Adds, AmongBefore, OneOf}
use Rattle.ags_check.specs.RowRules.{unit_and_type_rules}
use Rattle.ags_check.proofs.rows.entries.note_columns.Given as goal

abbrev pub invariant-loop-column : goal.invariant-loop-column
invariant-loop-column l = Adds (AmongBefore l.group.headings (λ _ heading f. OneOf (unit_and_type_rules l.listed l.group heading) f) l.column-index) l.fn.findings l.findings
