use Rattle.std.proofs.Common.{◌≡◌, Err, rules, subst}
use Rattle.ags_dict.specs.declared.reading.DictError.TheVariants.{NotDictionary, NoDict, MissingHeading}
use Rattle.ags_dict.specs.Reading.{ReadsDictionary}
use Rattle.reg_tables.proofs.ExamineLemmas.{not_dictionary, has_dict_then, has_headings_then}
use Rattle.reg_tables.proofs.open.meta.kept_dictionary.Goals as goal

pub returns-in-Err-NotDictionary-clause-refused : goal.returns-in-Err-NotDictionary-clause-refused
returns-in-Err-NotDictionary-clause-refused c _ dictionary short reads =
    let found = c.in-Err-NotDictionary._found in
    let named : c.in-Err-NotDictionary.field-0 ≡ NotDictionary found = search rules in
    let stands = subst (λ e. ReadsDictionary c.args.text.now (Err e)) named c.in-Err-NotDictionary.ensures.reads in
    not_dictionary c.args.text.now found stands.0 stands.1 dictionary reads

pub returns-in-Err-NoDict-clause-refused : goal.returns-in-Err-NoDict-clause-refused
returns-in-Err-NoDict-clause-refused c _ dictionary short reads =
    let named : c.in-Err-NoDict.field-0 ≡ NoDict = search rules in
    has_dict_then c.args.text.now (subst (λ e. ReadsDictionary c.args.text.now (Err e)) named c.in-Err-NoDict.ensures.reads) dictionary reads

pub returns-in-Err-MissingHeading-clause-refused : goal.returns-in-Err-MissingHeading-clause-refused
returns-in-Err-MissingHeading-clause-refused c _ dictionary short reads =
    let named : c.in-Err-MissingHeading.field-0 ≡ MissingHeading = search rules in
    has_headings_then c.args.text.now (subst (λ e. ReadsDictionary c.args.text.now (Err e)) named c.in-Err-MissingHeading.ensures.reads) dictionary reads
