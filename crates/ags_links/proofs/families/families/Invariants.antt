use Rattle.std.proofs.Common.{take}
use Rattle.ags_links.specs.Families.{AreFamilies}
use Rattle.ags_links.proofs.families.families.Given as goal

abbrev pub invariant-loop-group : goal.invariant-loop-group
invariant-loop-group l = AreFamilies l.dictionary (take l.group-index l.groups) l.families.items
