use Rattle.std.proofs.Common.{◌≢◌, length}
use Rattle.ags_rows.specs.declared.code.Code.TheVariants.{Rule4}
use Rattle.ags_rows.specs.Collecting.{Adds, AmongBefore, Notes}
use Rattle.ags_rows.proofs.checking.note_widths.Given as goal

abbrev pub invariant-loop-row : goal.invariant-loop-row
invariant-loop-row l = Adds (AmongBefore l.rows (λ place row. Notes row.line Rule4 l.name (length row.cells ≢ l.width)) l.row-index) l.fn.findings l.findings
