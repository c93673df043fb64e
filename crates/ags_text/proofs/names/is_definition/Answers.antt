use Rattle.std.proofs.Common.{◌∙◌, [], ◌∷◌}
use Rattle.std.specs.Prelude.{codes}
use Rattle.ags_text.proofs.Named.{any_other_way}
use Rattle.ags_text.proofs.names.is_definition.Goals as goal

pub returns : goal.returns
returns c = c.contains.ensures.value ∙ any_other_way c.args.group.now (codes "TRAN" ∷ codes "ABBR" ∷ codes "UNIT" ∷ codes "TYPE" ∷ codes "DICT" ∷ [])
