use Rattle.std.proofs.Common.{take}
use Rattle.ags_links.specs.Placing.{row_of}
use Rattle.ags_links.proofs.Kept.{texts}
use Rattle.ags_links.proofs.Parting.{ArePartsAt}
use Rattle.ags_links.proofs.texts.link_parts.Given as goal

abbrev pub invariant-loop-place : goal.invariant-loop-place
invariant-loop-place l = ArePartsAt l.separator (row_of l.row) (take l.place-index l.places) (texts l.parts.items)
