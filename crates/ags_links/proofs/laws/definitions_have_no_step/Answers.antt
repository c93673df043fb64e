use Rattle.ags_links.proofs.FileGraphs.{definitions_have_no_step}
use Rattle.ags_links.proofs.laws.definitions_have_no_step.Goals as goal

pub returns : goal.returns
returns c = definitions_have_no_step
