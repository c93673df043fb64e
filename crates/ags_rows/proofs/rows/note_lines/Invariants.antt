use Rattle.std.proofs.Common.{map, ◌+◌}
use Rattle.ags_rows.specs.Lines.{text_line}
use Rattle.ags_rows.specs.Collecting.{Adds, AmongBefore, OneOf}
use Rattle.ags_rows.specs.Parsing.{byte_rules}
use Rattle.ags_rows.proofs.rows.note_lines.Given as goal

abbrev pub invariant-loop-i : goal.invariant-loop-i
invariant-loop-i l = Adds (AmongBefore (map text_line l.lines) (λ place line. OneOf (byte_rules (place + 1) line)) l.i) l.fn.findings l.findings
