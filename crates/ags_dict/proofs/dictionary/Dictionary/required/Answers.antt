use Rattle.ags_dict.proofs.dictionary.Dictionary.required.Goals as goal

pub returns : goal.returns
returns c = c.of_status.ensures
