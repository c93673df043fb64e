use Rattle.std.proofs.Common.{◌≡◌, get_or, sym, subst, map, ap, ◌∙◌, Contains}
use Rattle.ags_rows.specs.Contents.{place_in}
use Rattle.ags_links.specs.declared.families.Family.{Family}
use Rattle.ags_links.specs.declared.parents.ParentLinks.{ParentLinks}
use Rattle.ags_links.specs.ParentRows.{IsPlacedAt, link_names}
use Rattle.ags_links.proofs.Heading.{places_named}
use Rattle.ags_links.proofs.Kept.{kept_next, texts}
use Rattle.ags_links.proofs.Members.{contains_map}
use Rattle.ags_links.proofs.RowLemmas.{one_at}
use Rattle.ags_links.proofs.parents.link_places.Goals as goal

pub first_with-requires : goal.first_with-requires
first_with-requires c =
    let links = c.index-links-place.result in
    subst (λ ts. Contains ts links.text.items) (sym c.requires.texts) (contains_map (λ (l : ParentLinks). l.text.items) c.args.links.now links (c.loop-place.place, c.loop-place-test.true, sym c.index-links-place.is))

pub loop-place-preserved : goal.loop-place-preserved
loop-place-preserved c =
    rw c.in_ok-push.ensures.items
    (kept_next (IsPlacedAt c.args.families.now c.args.texts.now) c.args.links.now c.loop-place.place c.loop-place.of_groups.items c.index-links-place.result _ c.loop-place-test.true c.index-links-place.is c.loop-place.invariant (
      λ family at.
          let is : c.index-families-place.result ≡ family = one_at c.args.families.now c.loop-place.place c.index-families-place.result family (at.0, sym c.index-families-place.is) at in
          let stood = (get_or c.args.families.now c.loop-place.place c.index-families-place.result).headings in
          c.in_ok-heading_places.ensures ∙ places_named stood c.deref.result.now ∙ ap (λ hs. map (place_in stood) (texts hs)) c.deref.ensures.value
          ∙ ap (λ (f : Family). map (place_in f.headings) (link_names c.index-links-place.result)) (sym c.index-families-place.is ∙ is),
      c.first_with.ensures,
    ))
