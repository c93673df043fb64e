use Rattle.std.proofs.Common.{length}
use Rattle.ags_rows.proofs.Fields.{ReadSoFar}
use Rattle.ags_rows.proofs.spelling.push_cells.Given as goal

abbrev pub invariant-loop-cell : goal.invariant-loop-cell
invariant-loop-cell l = ReadSoFar l.line l.rest l.initial.found.items l.found.items

abbrev pub decreases-loop-cell : goal.decreases-loop-cell
decreases-loop-cell l = length l.rest
