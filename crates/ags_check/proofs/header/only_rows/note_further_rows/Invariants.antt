use Rattle.ags_rows.specs.Collecting.{Adds, AmongBefore, Notes}
use Rattle.std.proofs.Common.{◌≡◌, ◌<◌}
use Rattle.ags_check.proofs.header.only_rows.note_further_rows.Given as goal

abbrev pub invariant-loop-i : goal.invariant-loop-i
invariant-loop-i l =
    Adds (AmongBefore l.group.rows (λ place row f. Notes row.line l.code l.name ((l.group.name ≡ l.name) × (0 < place)) f) l.i) l.fn.findings l.findings
