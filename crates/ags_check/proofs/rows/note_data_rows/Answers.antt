use Rattle.std.proofs.Common.{◌+◌, length, arith, ap, sym}
use Rattle.ags_rows.specs.Collecting.{At, OneOf}
use Rattle.ags_rows.proofs.Lemmas.{among_more, among_all}
use Rattle.ags_check.specs.RowRules.{data_row_rules}
use Rattle.ags_check.proofs.rows.note_data_rows.Goals as goal

pub note_data_row-requires-clause-row : goal.note_data_row-requires-clause-row
note_data_row-requires-clause-row c =
    c.requires.rows c.loop-i.i c.index-rows-i.result (rw (← c.rows-rows.ensures) (c.loop-i-test.true, sym c.index-rows-i.is))

pub loop-i-preserved : goal.loop-i-preserved
loop-i-preserved c =
    let file = c.args.index.now in
    let group = c.args.outline.now.group in
    let row = c.index-rows-i.result in
    let at : At group.rows c.loop-i.i row = rw (← c.rows-rows.ensures) (c.loop-i-test.true, sym c.index-rows-i.is) in
    among_more group.rows (λ place r f. OneOf (data_row_rules file.entries file.contents group (c.args.first + place) r) f) _ row _ _ _
    at c.loop-i.invariant c.in_ok-note_data_row.ensures

pub returns : goal.returns
returns c =
    let file = c.args.index.now in
    let group = c.args.outline.now.group in
    among_all group.rows (λ place r f. OneOf (data_row_rules file.entries file.contents group (c.args.first + place) r) f) _ _ _
    (omega (arith, c.loop-i-test.false, ap length c.rows-rows.ensures)) c.loop-i.invariant
