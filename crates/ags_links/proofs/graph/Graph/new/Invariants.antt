use Rattle.std.proofs.Common.{take}
use Rattle.ags_links.specs.Walks.{InRange}
use Rattle.ags_links.proofs.graph.Graph.new.Given as goal

abbrev pub invariant-loop-row : goal.invariant-loop-row
invariant-loop-row l = InRange l.rows (take l.row-index l.row-items)
