use Rattle.std.proofs.Common.{◌∙◌, sym, arith}
use Rattle.ags_rows.specs.Contents.{field_at}
use Rattle.ags_links.specs.Placing.{row_of}
use Rattle.ags_links.proofs.Choosing.{same_at, unequal}
use Rattle.ags_links.proofs.RowLemmas.{read_at}
use Rattle.ags_links.proofs.candidates.agree.Goals as goal

-- they differ at a place
pub returns-then-ne : goal.returns-then-ne
returns-then-ne c = λ same.
    let places = c.args.places.now in
    let others = c.args.other_places.now in
    let i = c.loop-index.index in
    absurd (unequal c.field-entry.result.now c.field-other_entry.result.now c.ne.result c.ne.ensures c.if-ne.true
    (c.field-entry.ensures
    ∙ same_at (field_at (row_of c.args.row.now).fields) (field_at (row_of c.args.other.now).fields) places others i _ _ same (read_at places i _ (omega (arith, c.loop-index-test.true, c.min-count.ensures))) (read_at others i _ (omega (arith, c.loop-index-test.true, c.min-count.ensures)))
    ∙ sym c.field-other_entry.ensures))
