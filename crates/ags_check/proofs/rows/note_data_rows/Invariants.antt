use Rattle.std.proofs.Common.{◌+◌}
use Rattle.ags_rows.specs.Collecting.{Adds, AmongBefore, OneOf}
use Rattle.ags_check.specs.RowRules.{data_row_rules}
use Rattle.ags_check.proofs.rows.note_data_rows.Given as goal

abbrev pub invariant-loop-i : goal.invariant-loop-i
invariant-loop-i l =
    Adds (AmongBefore l.outline.group.rows (λ place row f. OneOf (data_row_rules l.index.entries l.index.contents l.outline.group (l.first + place) row) f) l.i) l.fn.findings l.findings
