use Rattle.std.proofs.Common.{sym, subst, map, refl, arith, All, length, List}
use Rattle.std.proofs.lemmas.List.{length-map}
use Rattle.ags_links.specs.declared.parents.ParentLinks.{ParentLinks}
use Rattle.ags_links.specs.Families.{AreKept}
use Rattle.ags_links.specs.ParentRows.{AreListed, AreNumbers, IsPlacedAt, texts_in}
use Rattle.ags_links.specs.Placing.{row_of}
use Rattle.ags_links.proofs.Listing.{lists_made}
use Rattle.ags_links.proofs.Sharing.{all_numbers, parents_made}
use Rattle.ags_links.proofs.Using.{have_places}
use Rattle.ags_links.proofs.listed_parents.parents_among.Goals as goal
use Rattle.ags_links.proofs.listed_parents.parents_among.Goals.{In_ok-of_groups}

-- where the link headings of each group are, said of the links themselves
placed : (c : In_ok-of_groups) → AreKept c.in_ok-links.links.items c.in_ok-of_groups.of_groups.items (IsPlacedAt c.args.filed.now.families.now (texts_in c.in_ok-links.links.items))
placed c = subst (λ (ls : List ParentLinks). AreKept ls c.in_ok-of_groups.of_groups.items (IsPlacedAt c.args.filed.now.families.now (texts_in ls))) c.deref.ensures.value c.in_ok-of_groups.ensures

pub invariant_of-linked : goal.invariant_of-linked
invariant_of-linked c =
    let links = c.in_ok-links.links.items in
    record {
      grouped = have_places c.args.filed.now.dictionary.now c.args.filed.now.families.now links (texts_in links) c.in_ok-of_groups.of_groups.items c.args.filed.now.rows.now c.args.filed.now.kept
          (omega (arith, c.requires.families.each_has, c.in_ok-links.ensures.each_has)) refl (placed (goal.at.invariant_of-linked c).In_ok-of_groups);
    }

-- the numbers of all links are rows, rising
pub used_lists-requires-clause-numbers : goal.used_lists-requires-clause-numbers
used_lists-requires-clause-numbers c =
    subst (All (AreNumbers (length c.args.filed.now.rows.now))) (sym c.deref-2.ensures.value)
    (all_numbers c.args.filed.now.dictionary.now c.args.by_group.now (map row_of c.args.filed.now.rows.now) (length c.args.filed.now.rows.now) c.args.groups.now c.in_ok-links.links.items (length-map c.args.filed.now.rows.now row_of) c.requires.by_group c.in_ok-links.ensures)

pub returns : goal.returns
returns c =
    let links = c.in_ok-links.links.items in
    let rows = c.args.filed.now.rows.now in
    let lists = c.in_ok-lists.lists in
    let spans = c.in_ok-lists.spans.items in
    let of_groups = c.in_ok-of_groups.of_groups in
    let listed : AreListed rows of_groups.items links lists.items spans =
    subst (λ ls. AreListed rows of_groups.items ls lists.items spans) c.deref-2.ensures.value c.in_ok-lists.ensures in
    lists_made c.args.groups.now c.args.filed.now.dictionary.now rows links (record { of_groups = of_groups; lists = lists }) spans c.requires.placed listed
    (parents_made c.args.filed.now.dictionary.now rows c.args.groups.now c.args.by_group.now c.args.filed.now.families.now links (texts_in links) of_groups.items listed.lookups c.requires.families c.requires.by_group c.in_ok-links.ensures refl
    listed.looked (placed (goal.at.returns c).In_ok-of_groups))
