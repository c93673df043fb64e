use Rattle.std.proofs.Common.{◌≡◌, ◌∙◌, get_or, map, sym, ap, true≢false}
use Rattle.std.proofs.lemmas.Option.{IfSome_then}
use Rattle.ags_rows.specs.Contents.{place_in}
use Rattle.ags_rows.specs.Collecting.{At}
use Rattle.ags_links.specs.Families.{HasEntries}
use Rattle.ags_links.specs.ParentRows.{link_names, text_at}
use Rattle.ags_links.specs.Placing.{row_of}
use Rattle.ags_links.proofs.Choosing.{chosen_next, chosen_over, first_entry, has_no_text}
use Rattle.ags_links.proofs.Heading.{places_named}
use Rattle.ags_links.proofs.Kept.{texts}
use Rattle.ags_links.proofs.Members.{some_items}
use Rattle.ags_links.proofs.RowLemmas.{read_at}
use Rattle.ags_rows.proofs.Lemmas.{at_map}
use Rattle.ags_links.proofs.candidates.candidates.Goals as goal
use Rattle.ags_links.proofs.candidates.candidates.Goals.{then-may_have+then-may_be_parent+in_ok-push, else-may_have, else-may_have-via-then-may_have+else-may_be_parent, else-may_have-via-else-may_have}

pub loop-place-preserved : goal.loop-place-preserved
loop-place-preserved c =
    let rows = map row_of c.args.filed.now.rows.now in
    let numbers = c.args.links.now.rows.now in
    let names = link_names c.args.links.now in
    let places = c.args.places.now in
    let y = c.args.row.now in
    let text = text_at places y in
    let i = c.loop-place.place in
    let n = get_or numbers i 0 in
    let other = c.index-rows-number.result in
    let stands : At c.args.filed.now.rows.now n other = (c.requires.numbers.0 i 0 c.loop-place-test.true, sym c.index-rows-number.is) in
    let at = at_map row_of c.args.filed.now.rows.now n other stands in
    let over : (HasEntries names (row_of other) text → ⊥) → _ = chosen_over rows numbers names text c.loop-place.chosen.items i (row_of other) c.loop-place-test.true c.loop-place.invariant at in
    elim c.if-may_have.branch [
      | then-may_have+then-may_be_parent+in_ok-push w ↦ rw w.chosen-is (chosen_next rows numbers names text c.loop-place.chosen.items w.push.new.self.items i c.loop-place-test.true c.requires.numbers.1 c.loop-place.invariant w.in_ok-push.ensures.items)
      | else-may_have w ↦ rw w.chosen-is (elim w.else-may_have.branch [
        | else-may_have-via-then-may_have+else-may_be_parent v ↦
            let family = c.row.result.1.now in
            let stood : v.deref-then-may_have.result.now ≡ map (place_in family.headings) names =
            v.deref-then-may_have.ensures.value ∙ c.in_ok-stood.ensures ∙ places_named family.headings c.deref.result.now
            ∙ ap (λ hs. map (place_in family.headings) (texts hs)) c.deref.ensures.value in
            over (has_no_text c.args.filed.now.dictionary.now c.args.filed.now.families.now c.args.filed.now.rows.now n c.row.result.0.now.place other y family places v.deref-then-may_have.result.now names v.may_be_parent.result c.args.filed.now.kept stands
            c.row.ensures.family.1 stood v.may_be_parent.ensures.apart v.may_be_parent.ensures.agree v.if-may_be_parent.false)
        | else-may_have-via-else-may_have v ↦ over (λ has.
            let h = first_entry names places other y _ (read_at places 0 _ (some_items places c.is_empty-else-is_empty.result c.is_empty-else-is_empty.ensures c.if-is_empty-2.false)) has in
            true≢false (sym (c.may_have.ensures (IfSome_then c.leading_entries-entries.result c.leading_entries-entries.ensures
            (λ list first entry at_entry. first i n entry other h.0 at_entry (read_at numbers i 0 c.loop-place-test.true) stands h.1 ∙ h.2 ∙ sym c.field-asked.ensures))) ∙ v.if-may_have.false))
      ])
    ]

pub row-requires : goal.row-requires
row-requires c = c.requires.numbers.0 0 0 (some_items c.args.links.now.rows.now c.is_empty.result c.is_empty.ensures c.if-is_empty.false)
