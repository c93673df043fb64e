use Rattle.std.proofs.Common.{◌≡◌, ◌∙◌, ap, get_or, map}
use Rattle.ags_rows.specs.Contents.{place_in}
use Rattle.ags_links.specs.declared.families.Family.{Family}
use Rattle.ags_links.proofs.Heading.{places_named}
use Rattle.ags_links.proofs.Kept.{texts}
use Rattle.ags_links.proofs.RowLemmas.{one_at, read_at}
use Rattle.ags_links.proofs.parents.places_in_group.Goals as goal

pub returns-clause-places : goal.returns-clause-places
returns-clause-places c = λ family at.
    let families = c.args.filed.now.families.now in
    let here = get_or families c.args.place c.index-families-place.result in
    let same : here ≡ family = one_at families c.args.place here family (read_at families c.args.place c.index-families-place.result c.requires.place) at in
    c.in_ok-places.ensures ∙ places_named here.headings c.args.headings.now ∙ ap (λ (f : Family). map (place_in f.headings) (texts c.args.headings.now)) same
