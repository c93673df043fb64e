use Rattle.std.proofs.Common.{◌≡◌, ◌++◌, map, take}
use Rattle.ags_cli.specs.Report.{shown_byte}
use Rattle.ags_cli.proofs.report.push_subject.Given as goal

abbrev pub invariant-loop-byte : goal.invariant-loop-byte
invariant-loop-byte l = l.text.items ≡ l.initial.text.items ++ map shown_byte (take l.byte-index l.subject)
