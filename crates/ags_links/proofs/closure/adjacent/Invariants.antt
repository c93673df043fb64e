use Rattle.std.proofs.Common.{◌≡◌, length, take}
use Rattle.ags_links.specs.Work.{IsAdjacency}
use Rattle.ags_links.proofs.closure.adjacent.Given as goal

abbrev pub invariant-loop-row : goal.invariant-loop-row
invariant-loop-row l = record {
  rows : length l.beside.items ≡ l.rows;
  each : IsAdjacency (take l.row-index l.steps) l.beside.items;
}
