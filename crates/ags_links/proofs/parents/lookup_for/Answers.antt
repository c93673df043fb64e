use Rattle.std.proofs.Common.{◌<◌, map, sym, subst, length, All}
use Rattle.std.proofs.lemmas.Result.{IfOk-weaker}
use Rattle.ags_links.specs.Families.{HasAmong, HasEntries}
use Rattle.ags_links.specs.Lookups.{Finds}
use Rattle.ags_links.specs.ParentRows.{link_names, text_at}
use Rattle.ags_links.specs.Placing.{row_of}
use Rattle.ags_links.proofs.Asking.{finds_all}
use Rattle.ags_links.proofs.Choosing.{chosen_asked, chosen_below}
use Rattle.ags_links.proofs.Kept.{texts}
use Rattle.ags_links.proofs.parents.lookup_for.Goals as goal

pub rows_by_entries-requires-clause-below : goal.rows_by_entries-requires-clause-below
rows_by_entries-requires-clause-below c =
    subst (All (λ n. n < length c.args.filed.now.rows.now)) (sym c.deref-2.ensures.value)
    (chosen_below (map row_of c.args.filed.now.rows.now) c.args.links.now.rows.now (link_names c.args.links.now) (text_at c.args.places.now c.args.row.now) c.in_ok-numbers.numbers.items (length c.args.filed.now.rows.now) c.in_ok-numbers.ensures c.requires.numbers.0)

pub returns : goal.returns
returns c =
    let rows = map row_of c.args.filed.now.rows.now in
    let names = link_names c.args.links.now in
    IfOk-weaker c.rows_by_entries.result _ _ (λ lookup finds.
    chosen_asked rows c.args.links.now.rows.now names (text_at c.args.places.now c.args.row.now) c.in_ok-numbers.numbers.items lookup c.in_ok-numbers.ensures
    (subst (λ ns. Finds lookup (HasAmong ns rows (HasEntries names))) c.deref-2.ensures.value (subst (λ hs. Finds lookup (HasAmong c.deref-2.result.now rows (HasEntries (texts hs)))) c.deref.ensures.value
    (finds_all lookup c.deref-2.result.now c.args.filed.now.rows.now (texts c.deref.result.now) finds)))) c.rows_by_entries.ensures
