use Rattle.std.proofs.Common.{◌+◌, length, count_by, not}
use Rattle.ags_links.proofs.Follows.{Following}
use Rattle.ags_links.proofs.closure.follow.Given as goal

abbrev pub invariant-loop-row : goal.invariant-loop-row
invariant-loop-row l = Following l.steps l.fn.marks l.marks l.work.items l.turns

abbrev pub decreases-loop-row : goal.decreases-loop-row
decreases-loop-row l = count_by not l.marks + length l.work.items
