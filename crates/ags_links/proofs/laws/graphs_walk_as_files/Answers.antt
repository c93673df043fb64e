use Rattle.ags_links.proofs.FileGraphs.{graphs_walk_as_files}
use Rattle.ags_links.proofs.laws.graphs_walk_as_files.Goals as goal

pub returns : goal.returns
returns c = graphs_walk_as_files
