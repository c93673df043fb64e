use Rattle.std.proofs.Common.{take, map}
use Rattle.ags_links.specs.Families.{HasText, HasFileSet}
use Rattle.ags_links.specs.Lookups.{Finds, pairs_of}
use Rattle.ags_links.specs.Placing.{row_of}
use Rattle.ags_links.proofs.families.rows_by_file_set.Given as goal

abbrev pub invariant-loop-number : goal.invariant-loop-number
invariant-loop-number l = Finds (pairs_of l.pairs.items) (HasText (map row_of (take l.number l.filed.rows.now)) HasFileSet)
