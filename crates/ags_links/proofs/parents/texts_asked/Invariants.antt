use Rattle.std.proofs.Common.{take}
use Rattle.ags_links.specs.Lookups.{pairs_of}
use Rattle.ags_links.specs.ParentRows.{AreTextsOf}
use Rattle.ags_links.proofs.parents.texts_asked.Given as goal

abbrev pub invariant-loop-number : goal.invariant-loop-number
invariant-loop-number l = AreTextsOf l.linked.filed.rows.now l.linked.of_groups.items (take l.number-index l.users) (pairs_of l.pairs.items)
