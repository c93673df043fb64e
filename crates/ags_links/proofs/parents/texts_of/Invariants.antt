use Rattle.std.proofs.Common.{◌≡◌, take}
use Rattle.ags_links.specs.ParentRows.{texts_in}
use Rattle.ags_links.proofs.Kept.{texts}
use Rattle.ags_links.proofs.parents.texts_of.Given as goal

abbrev pub invariant-loop-of_group : goal.invariant-loop-of_group
invariant-loop-of_group l = texts l.texts.items ≡ texts_in (take l.of_group-index l.links)
