use Rattle.std.proofs.Common.{take, map}
use Rattle.ags_links.specs.ParentRows.{AreCandidates, link_names, text_at}
use Rattle.ags_links.specs.Placing.{row_of}
use Rattle.ags_links.proofs.candidates.candidates.Given as goal

abbrev pub invariant-loop-place : goal.invariant-loop-place
invariant-loop-place l = AreCandidates (map row_of l.rows) (take l.place l.numbers) (link_names l.links) (text_at l.places l.row) l.chosen.items
