use Rattle.std.proofs.Common.{sym, arith}
use Rattle.ags_links.specs.ParentRows.{IsParentLinks}
use Rattle.ags_links.proofs.Kept.{kept_next}
use Rattle.ags_links.proofs.parents.all_parent_links.Goals as goal

pub parent_links_of-requires-clause-family : goal.parent_links_of-requires-clause-family
parent_links_of-requires-clause-family c =
    c.requires.families.each c.loop-place.place c.index-groups-place.result c.index-families-place.result (c.loop-place-test.true, sym c.index-groups-place.is)
    (omega (arith, c.loop-place-test.true, c.requires.families.each_has), sym c.index-families-place.is)

pub loop-place-preserved : goal.loop-place-preserved
loop-place-preserved c =
    rw c.in_ok-push.ensures.items
    (kept_next (λ place. IsParentLinks c.args.filed.now.dictionary.now c.args.by_group.now) c.args.groups.now c.loop-place.place c.loop-place.links.items c.index-groups-place.result c.in_ok-parent_links_of.field-0 c.loop-place-test.true c.index-groups-place.is c.loop-place.invariant c.in_ok-parent_links_of.ensures)
