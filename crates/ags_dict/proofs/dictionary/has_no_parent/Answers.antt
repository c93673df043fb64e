use Rattle.std.proofs.Common.{◌∙◌, [], ◌∷◌, codes}
use Rattle.ags_text.proofs.Lemmas.{any_other_way}
use Rattle.ags_dict.proofs.dictionary.has_no_parent.Goals as goal

pub returns : goal.returns
returns c =
    c.contains.ensures.value ∙ any_other_way c.args.group.now (codes "PROJ" ∷ codes "TRAN" ∷ codes "ABBR" ∷ codes "DICT" ∷ codes "UNIT" ∷ codes "TYPE" ∷ codes "FILE" ∷ [])
