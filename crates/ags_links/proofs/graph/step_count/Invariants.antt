use Rattle.std.proofs.Common.{◌≤◌, ◌*◌, ◌^◌}
use Rattle.ags_links.proofs.Stepping.{CountsBefore}
use Rattle.ags_links.proofs.graph.step_count.Given as goal

abbrev pub invariant-loop-row : goal.invariant-loop-row
invariant-loop-row l = record { steps : CountsBefore l.index l.row l.count; few : l.count ≤ l.row * 2 ^ 32 }
