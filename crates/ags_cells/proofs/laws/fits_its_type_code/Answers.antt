use Rattle.ags_cells.proofs.CodeLemmas.{fits_its_type_code}
use Rattle.ags_cells.proofs.laws.fits_its_type_code.Goals as goal

pub returns : goal.returns
returns c = fits_its_type_code
