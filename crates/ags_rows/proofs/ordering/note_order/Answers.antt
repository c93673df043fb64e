use Rattle.std.proofs.Common.{◌≡◌, ◌≢◌, [], length, sym, ◌∙◌}
use Rattle.ags_rows.specs.declared.code.Code.TheVariants.{Rule2, Rule2b, Rule4}
use Rattle.ags_rows.specs.declared.rows.Descriptor.TheVariants as kinds
use Rattle.ags_rows.specs.Collecting.{At, Adds, Notes, OneOf}
use Rattle.ags_rows.specs.Order.{OutOfPlace}
use Rattle.ags_rows.specs.Stands.{row_rules}
use Rattle.ags_rows.proofs.Collecting.{adds_found, adds_unmet, two_rules, among_more, among_all}
use Rattle.ags_rows.proofs.Repeats.{empties, empty}
use Rattle.ags_rows.proofs.ordering.note_order.Goals as goal
use Rattle.ags_rows.proofs.ordering.note_order.Goals.{then-is_empty+in_ok-note, else-is_empty, then-is_out_of_place+in_ok-note-2, else-is_out_of_place, then-is_unnamed+in_ok-note-3, else-is_unnamed}

pub loop-place-preserved : goal.loop-place-preserved
loop-place-preserved c =
    let rows = c.args.rows.now in
    let place = c.loop-place.place in
    let row = c.index-rows-place.result in
    let mid = c.if-is_out_of_place.findings in
    let at : At rows place row = (c.loop-place-test.true, sym c.index-rows-place.is) in
    let out = c.is_out_of_place.ensures row at in
    let unnamed = c.is_unnamed.ensures in
    let order : Adds (Notes row.line Rule2b [] (OutOfPlace rows place row)) c.loop-place.findings mid = elim c.if-is_out_of_place.branch [
      | then-is_out_of_place+in_ok-note-2 w ↦ adds_found (out.0 w.if-is_out_of_place.true) (w.findings-is ∙ w.in_ok-note-2.ensures.noted)
      | else-is_out_of_place w ↦ adds_unmet w.if-is_out_of_place.false out.1 w.findings-is
    ] in
    let name : Adds (Notes row.line Rule4 [] ((row.descriptor ≡ kinds.Group) × (length row.items ≢ 1))) mid c.if-is_unnamed.findings = elim c.if-is_unnamed.branch [
      | then-is_unnamed+in_ok-note-3 w ↦ adds_found (unnamed.0 w.if-is_unnamed.true) (w.findings-is ∙ w.in_ok-note-3.ensures.noted)
      | else-is_unnamed w ↦ adds_unmet w.if-is_unnamed.false unnamed.1 w.findings-is
    ] in
    among_more rows (λ place row. OneOf (row_rules rows place row)) place row _ _ _ at c.loop-place.invariant (two_rules _ _ _ order name)

pub returns : goal.returns
returns c =
    let rows = c.args.rows.now in
    let none : Adds (Notes 0 Rule2 [] (rows ≡ [])) c.args.findings.now c.if-is_empty.findings = elim c.if-is_empty.branch [
      | then-is_empty+in_ok-note w ↦ adds_found (empties rows _ c.is_empty.ensures w.if-is_empty.true) (w.findings-is ∙ w.in_ok-note.ensures.noted)
      | else-is_empty w ↦ adds_unmet w.if-is_empty.false (λ e. empty rows _ c.is_empty.ensures e) w.findings-is
    ] in
    two_rules _ _ _ none (among_all rows (λ place row. OneOf (row_rules rows place row)) _ _ _ c.loop-place-test.false c.loop-place.invariant)
