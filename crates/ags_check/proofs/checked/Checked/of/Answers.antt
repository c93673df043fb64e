use Rattle.ags_rows.specs.Contents.{contents_of}
use Rattle.ags_check.proofs.Whole.{given_first, clean_entries}
use Rattle.ags_check.proofs.checked.Checked.of.Goals as goal

pub invariant_of-result : goal.invariant_of-result
invariant_of-result c =
    let first = given_first c.args.given.now c.args.dictionary (contents_of c.args.scan) _ _ c.group_count-given_groups.ensures c.heading_count-given_headings.ensures (clean_entries _ c.requires) in
    rw first c.requires

pub returns-clause-given : goal.returns-clause-given
returns-clause-given c =
    given_first c.args.given.now c.args.dictionary (contents_of c.args.scan) _ _ c.group_count-given_groups.ensures c.heading_count-given_headings.ensures (clean_entries _ c.requires)
