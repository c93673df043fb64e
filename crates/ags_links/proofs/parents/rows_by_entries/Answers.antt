use Rattle.std.proofs.Common.{◌≡◌, ◌++◌, get_or, map, ap, sym, subst, ◌∙◌}
use Rattle.ags_rows.specs.Contents.{place_in, field_at}
use Rattle.ags_rows.specs.Collecting.{At}
use Rattle.ags_links.specs.DataRows.{entry_of}
use Rattle.ags_links.specs.KeyTexts.{key_text}
use Rattle.ags_links.specs.Placing.{row_of}
use Rattle.ags_links.specs.Lookups.{Finds, pairs_of}
use Rattle.ags_links.specs.ParentRows.{HasAskedAmong}
use Rattle.ags_links.proofs.Asking.{finds_asked_number}
use Rattle.ags_links.proofs.Finding.{finds_ok}
use Rattle.ags_links.proofs.Heading.{entries_at}
use Rattle.ags_links.proofs.Kept.{texts}
use Rattle.std.proofs.lemmas.List.{take_all}
use Rattle.ags_rows.proofs.Lemmas.{at_map}
use Rattle.ags_links.proofs.parents.rows_by_entries.Goals as goal

pub loop-number-preserved : goal.loop-number-preserved
loop-number-preserved c =
    let numbers = c.args.numbers.now in
    let families = c.args.filed.now.families.now in
    let i = c.loop-number.number-index in
    let n = get_or numbers i 0 in
    let row = c.row.result.0.now in
    let family = c.row.result.1.now in
    let of_row = row_of row in
    let names = texts c.args.headings.now in
    let stood = c.in_ok-stood.stood in
    let placed : stood.places.items ≡ map (place_in family.headings) names = c.in_ok-stood.ensures.places family (subst (λ place. At families place family) (sym c.in_ok-stood.ensures.place) c.row.ensures.family) in
    let text : c.deref-in-loop-number.result.now ≡ key_text (map (entry_of of_row) names) =
    c.deref-in-loop-number.ensures.value ∙ c.in_ok-push_entries.ensures ∙ ap (λ start. start ++ key_text (map (field_at of_row.fields) c.deref.result.now)) c.clear.ensures.items
    ∙ ap (λ ps. key_text (map (field_at of_row.fields) ps)) (c.deref.ensures.value ∙ placed ∙ ap (λ hs. map (place_in hs) names) c.row.ensures.kept.headings)
    ∙ ap key_text (entries_at of_row names) in
    record {
      finds = finds_asked_number c.args.asked c.args.filed.now.rows.now numbers names (pairs_of c.loop-number.pairs.items) (pairs_of c.push_asked.new.pairs.items) i of_row c.deref-in-loop-number.result.now c.loop-number-test.true c.requires.rising
          c.loop-number.invariant.finds c.in_ok-push_asked.ensures (at_map row_of c.args.filed.now.rows.now n row c.row.ensures.row) (sym text);
      placed = c.in_ok-stood.ensures.places;
    }

pub returns : goal.returns
returns c =
    let numbers = c.args.numbers.now in
    let Asked = HasAskedAmong c.args.asked numbers c.args.filed.now.rows.now (texts c.args.headings.now) in
    finds_ok c.rows_by_text.result (pairs_of c.loop-number.pairs.items) Asked c.rows_by_text.ensures
    (subst (λ ns. Finds (pairs_of c.loop-number.pairs.items) (HasAskedAmong c.args.asked ns c.args.filed.now.rows.now (texts c.args.headings.now))) (take_all c.loop-number.number-index numbers c.loop-number-test.false) c.loop-number.invariant.finds)
