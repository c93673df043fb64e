use Rattle.std.proofs.Common.{take}
use Rattle.ags_links.specs.Families.{AreKept}
use Rattle.ags_links.specs.ParentRows.{IsPlacedAt}
use Rattle.ags_links.proofs.parents.link_places.Given as goal

abbrev pub invariant-loop-place : goal.invariant-loop-place
invariant-loop-place l = AreKept (take l.place l.links) l.of_groups.items (IsPlacedAt l.families l.texts)
