use Rattle.std.proofs.Common.{◌∙◌, ap, map}
use Rattle.ags_check.specs.CodeLists.{pair_texts}
use Rattle.ags_check.proofs.rows.code_lists.listed_abbreviations.Goals as goal

pub returns : goal.returns
returns c = rw (ap (map pair_texts) c.as_slice.ensures.value ∙ c.in_ok-pairs.ensures) at c.of.ensures
