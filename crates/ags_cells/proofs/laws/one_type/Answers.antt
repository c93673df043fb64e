use Rattle.ags_cells.proofs.CodeLemmas.{one_type}
use Rattle.ags_cells.proofs.laws.one_type.Goals as goal

pub returns : goal.returns
returns c = one_type
