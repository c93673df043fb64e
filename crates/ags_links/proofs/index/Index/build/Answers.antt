use Rattle.std.proofs.Common.{◌∙◌, All, map, ap, subst, sym}
use Rattle.ags_rows.specs.Contents.{contents_of}
use Rattle.ags_links.specs.DataRows.{data_rows}
use Rattle.ags_links.specs.Families.{HasFileSet, HasKeyText, HasText}
use Rattle.ags_links.specs.Keys.{AreFirstsOfKeys}
use Rattle.ags_links.specs.Lookups.{Finds}
use Rattle.ags_links.specs.ParentRows.{AreParentLists}
use Rattle.ags_links.specs.Placing.{IsPlaced, row_of}
use Rattle.ags_links.proofs.index.Index.build.Goals as goal
use Rattle.ags_links.proofs.index.Index.build.Goals.{In_ok-rows}

-- each row is in its group, among the groups that are passed on
placed : (c : In_ok-rows) → All (IsPlaced c.groups-groups.result.now) c.in_ok-rows.rows.items
placed c = subst (λ gs. All (IsPlaced gs) c.in_ok-rows.rows.items) (sym c.groups-groups.ensures) c.in_ok-rows.ensures.placed

pub families-requires : goal.families-requires
families-requires c = subst (All (IsPlaced c.groups-groups.result.now)) (sym c.deref.ensures.value) (placed (goal.at.families-requires c).In_ok-rows)

pub listed_parents-requires-clause-placed : goal.listed_parents-requires-clause-placed
listed_parents-requires-clause-placed c = subst (All (IsPlaced c.groups-groups.result.now)) (sym c.deref-2.ensures.value) (placed (goal.at.listed_parents-requires-clause-placed c).In_ok-rows)

pub invariant_of-result : goal.invariant_of-result
invariant_of-result c =
    let entries = c.args.dictionary.now in
    let keyed = c.in_ok-keyed.keyed in
    let listed = c.in_ok-listed.listed in
    record {
      placed = placed (goal.at.invariant_of-result c).In_ok-rows;
      numbered = c.in_ok-rows.ensures.rows ∙ ap (λ gs. data_rows (contents_of gs)) (sym c.groups-groups.ensures);
      few = c.in_ok-rows.ensures.few;
      families = c.in_ok-families.ensures.families;
      parented = subst (λ rows. AreParentLists entries rows listed.parents listed.spans.items) c.deref-2.ensures.value c.in_ok-listed.ensures;
      first = subst (λ rows. AreFirstsOfKeys (map row_of rows) entries keyed.firsts.items) c.deref-2.ensures.value c.in_ok-keyed.ensures.firsts;
      keyed = subst (λ rows. Finds keyed.by_key (HasText (map row_of rows) (HasKeyText entries))) c.deref-2.ensures.value c.in_ok-keyed.ensures.keyed;
      filed = subst (λ rows. Finds keyed.by_file_set (HasText (map row_of rows) HasFileSet)) c.deref-2.ensures.value c.in_ok-keyed.ensures.filed;
      separated = c.separators_in.ensures;
    }
