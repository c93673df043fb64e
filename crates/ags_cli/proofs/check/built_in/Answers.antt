use Rattle.std.proofs.Common.{Err, ap, subst, ◌∙◌}
use Rattle.ags_rows.specs.declared.built_in.TheConstants.{MINI}
use Rattle.ags_dict.specs.Reading.{ReadsDictionary}
use Rattle.ags_cli.proofs.BuiltIn.{no_findings}
use Rattle.ags_cli.proofs.check.built_in.Goals as goal

pub unreachable-requires : goal.unreachable-requires
unreachable-requires c =
    let refused = subst (λ r. ReadsDictionary MINI.now r) (c.in-Err-NotDictionary.is ∙ ap Err c.in-Err-NotDictionary.field-0-is) c.read.ensures.reads in
    no_findings c.one_list_of_findings.ensures _ c.mini_is_dictionary.ensures.0 _ refused.0 refused.1

pub unreachable-requires-in-Err-NoDict : goal.unreachable-requires-in-Err-NoDict
unreachable-requires-in-Err-NoDict c =
    c.one_dictionary.ensures.1 _ _ c.mini_is_dictionary.ensures.0
    (subst (λ r. ReadsDictionary MINI.now r) (c.in-Err-NoDict.is ∙ ap Err c.in-Err-NoDict.field-0-is) c.read.ensures.reads)

pub unreachable-requires-in-Err-MissingHeading : goal.unreachable-requires-in-Err-MissingHeading
unreachable-requires-in-Err-MissingHeading c =
    c.one_dictionary.ensures.2 _ _ c.mini_is_dictionary.ensures.0
    (subst (λ r. ReadsDictionary MINI.now r) (c.in-Err-MissingHeading.is ∙ ap Err c.in-Err-MissingHeading.field-0-is) c.read.ensures.reads)

pub returns-in-Ok : goal.returns-in-Ok
returns-in-Ok c = c.one_dictionary.ensures.0 _ _ _ c.in-Ok.ensures.reads c.mini_is_dictionary.ensures.0
