use Rattle.std.proofs.Common.{◌++◌, ap, ◌∙◌, sym, Option, ℕ}
use Rattle.ags_rows.specs.Contents.{field_at}
use Rattle.ags_links.specs.KeyTexts.{ended_text}
use Rattle.ags_links.specs.Placing.{row_of}
use Rattle.std.proofs.lemmas.List.Folds.{flat_map-map}
use Rattle.ags_links.proofs.Growing.{grow_more, grow_all}
use Rattle.ags_links.proofs.texts.push_entries.Goals as goal

pub loop-place-preserved : goal.loop-place-preserved
loop-place-preserved c =
    let fields = (row_of c.args.row.now).fields in
    grow_more (λ (p : Option ℕ). ended_text (field_at fields p)) c.args.out.now.items c.loop-place.out.items c.push_text.new.out.items c.args.places.now c.loop-place.place-index _ c.loop-place-test.true c.loop-place.invariant
    (c.in_ok-push_text.ensures ∙ ap (λ e. c.loop-place.out.items ++ ended_text e) c.field.ensures)

pub returns : goal.returns
returns c =
    let fields = (row_of c.args.row.now).fields in
    grow_all (λ (p : Option ℕ). ended_text (field_at fields p)) c.args.out.now.items c.loop-place.out.items c.args.places.now c.loop-place.place-index c.loop-place-test.false c.loop-place.invariant
    ∙ ap (λ l. c.args.out.now.items ++ l) (sym (flat_map-map ended_text (field_at fields) c.args.places.now))
