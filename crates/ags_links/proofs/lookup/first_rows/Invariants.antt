use Rattle.ags_links.proofs.FirstRows.{Led}
use Rattle.ags_links.proofs.lookup.first_rows.Given as goal

abbrev pub invariant-loop-place : goal.invariant-loop-place
invariant-loop-place l = Led l.lookup l.pairs l.count l.place l.first l.firsts.items
