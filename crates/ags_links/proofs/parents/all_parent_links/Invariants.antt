use Rattle.std.proofs.Common.{take}
use Rattle.ags_links.specs.ParentRows.{AreParentLinks}
use Rattle.ags_links.proofs.parents.all_parent_links.Given as goal

abbrev pub invariant-loop-place : goal.invariant-loop-place
invariant-loop-place l = AreParentLinks l.filed.dictionary.now l.by_group (take l.place l.groups) l.links.items
