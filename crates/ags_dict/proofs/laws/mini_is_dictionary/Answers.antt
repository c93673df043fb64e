use Rattle.std.proofs.Common.{refl, sym}
use Rattle.ags_rows.specs.declared.built_in.TheConstants.{MINI}
use Rattle.ags_rows.specs.Mini.{mini_contents}
use Rattle.ags_rows.proofs.Lemmas.{mini_groups, loose_groups}
use Rattle.ags_dict.specs.Reading.{HasContents}
use Rattle.ags_dict.proofs.laws.mini_is_dictionary.Goals as goal

mini_has : HasContents MINI.now mini_contents
mini_has = (mini_groups.0, loose_groups MINI.now mini_groups.0 mini_groups.1, sym mini_groups.2)

pub returns : goal.returns
returns c = ((mini_contents, mini_has, refl, refl, refl), refl)
