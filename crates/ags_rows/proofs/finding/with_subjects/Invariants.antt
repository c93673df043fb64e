use Rattle.std.proofs.Common.{◌≡◌, map, take}
use Rattle.ags_rows.specs.FindingLists.{bare_finding}
use Rattle.ags_rows.proofs.finding.with_subjects.Given as goal

abbrev pub invariant-loop-one : goal.invariant-loop-one
invariant-loop-one l = l.full.items ≡ map bare_finding (take l.one-index l.fn.bare)
