use Rattle.std.proofs.lemmas.Result.{IfOk-weaker}
use Rattle.ags_rows.proofs.Collecting.{three_rules}
use Rattle.ags_rows.proofs.checking.note_group.Goals as goal

pub returns-clause-noted : goal.returns-clause-noted
returns-clause-noted c =
    let name = rw c.as_slice.ensures at c.in_ok-note_name.ensures.noted in
    IfOk-weaker c.note_headings.result _ _ (λ _ headings. three_rules _ _ _ _ c.in_ok-note_shape.ensures name headings) c.note_headings.ensures
