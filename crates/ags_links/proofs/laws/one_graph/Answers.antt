use Rattle.ags_links.proofs.OneGraph.{one_graph}
use Rattle.ags_links.proofs.laws.one_graph.Goals as goal

pub returns : goal.returns
returns c = one_graph
