use Rattle.ags_links.specs.Steps.{ListsSteps}
use Rattle.ags_links.proofs.Stepping.{StepsBefore}
use Rattle.ags_links.proofs.graph.Graph.of.Given as goal

abbrev pub invariant-loop-row : goal.invariant-loop-row
invariant-loop-row l = ListsSteps l.steps.items (StepsBefore l.index l.row)
