use Rattle.std.proofs.Common.{◌≡◌, flat_map, take}
use Rattle.ags_cli.specs.Report.{report_line}
use Rattle.ags_cli.proofs.report.report_lines.Given as goal

abbrev pub invariant-loop-place : goal.invariant-loop-place
invariant-loop-place l = l.text.items ≡ flat_map report_line (take l.place l.findings)
