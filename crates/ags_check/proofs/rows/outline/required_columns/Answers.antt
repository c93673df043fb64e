use Rattle.std.proofs.Common.{◌∙◌, ap}
use Rattle.ags_dict.specs.Entries.{required_of}
use Rattle.ags_check.proofs.Naming.{texts}
use Rattle.ags_check.proofs.rows.outline.required_columns.Goals as goal

pub returns : goal.returns
returns c =
    rw (ap texts c.as_slice-2.ensures.value ∙ c.in_ok-required.ensures ∙ ap (required_of c.args.dictionary.now) c.as_slice.ensures) at c.columns.ensures
