use Rattle.std.proofs.Common.{◌≡◌, take, map}
use Rattle.ags_rows.proofs.places.Places.of_cells.Given as goal

abbrev pub invariant-loop-cell : goal.invariant-loop-cell
invariant-loop-cell l = map (λ n. n.now) l.names.items ≡ take l.cell-index l.cells
