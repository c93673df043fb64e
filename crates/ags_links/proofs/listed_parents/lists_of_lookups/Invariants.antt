use Rattle.std.proofs.Common.{take}
use Rattle.ags_links.specs.ParentRows.{AreListed}
use Rattle.ags_links.proofs.listed_parents.lists_of_lookups.Given as goal

abbrev pub invariant-loop-place : goal.invariant-loop-place
invariant-loop-place l = AreListed l.linked.filed.rows.now l.linked.of_groups.items (take l.place l.links) l.lists.items l.spans.items
