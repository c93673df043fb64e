use Rattle.std.proofs.Common.{◌≡◌, ◌++◌, take, map}
use Rattle.ags_links.proofs.graph.add_steps.Given as goal

abbrev pub invariant-loop-target : goal.invariant-loop-target
invariant-loop-target l = l.steps.items ≡ l.fn.steps.items ++ map (λ target. (l.row, target)) (take l.target-index l.targets)
