use Rattle.std.proofs.Common.{◌≡◌, take}
use Rattle.ags_rows.specs.Groups.{row_count}
use Rattle.ags_rows.proofs.scanning.Scan.row_count.Given as goal

abbrev pub invariant-loop-group : goal.invariant-loop-group
invariant-loop-group l = l.count ≡ row_count (take l.group-index l.group-items)
