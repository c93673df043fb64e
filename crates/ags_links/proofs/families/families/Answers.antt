use Rattle.ags_links.specs.Families.{IsFamily}
use Rattle.ags_links.proofs.Kept.{kept_next, kept_all, rows_have}
use Rattle.ags_links.proofs.families.families.Goals as goal

pub loop-group-preserved : goal.loop-group-preserved
loop-group-preserved c =
    rw c.in_ok-push.ensures.items
    (kept_next (λ place. IsFamily c.args.dictionary.now) c.args.groups.now c.loop-group.group-index c.loop-group.families.items c.group-item.result c.in_ok-family_of.field-0 c.loop-group-test.true c.group-item.is c.loop-group.invariant c.in_ok-family_of.ensures)

pub returns-clause-kept : goal.returns-clause-kept
returns-clause-kept c =
    rows_have c.args.dictionary.now c.args.groups.now c.loop-group.families.items c.args.rows.now
    (kept_all (λ place. IsFamily c.args.dictionary.now) c.args.groups.now c.loop-group.group-index c.loop-group.families.items c.loop-group-test.false c.loop-group.invariant) c.requires
