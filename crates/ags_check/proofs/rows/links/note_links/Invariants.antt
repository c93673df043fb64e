use Rattle.std.proofs.Common.{[], ◌∷◌}
use Rattle.ags_rows.specs.declared.code.Code.TheVariants.{Rule11c}
use Rattle.ags_rows.specs.Collecting.{Adds, AmongBefore, Notes, OneOf}
use Rattle.ags_check.specs.RowRules.{headed_row, IsBrokenLink}
use Rattle.ags_check.proofs.rows.links.note_links.Given as goal

abbrev pub invariant-loop-column : goal.invariant-loop-column
invariant-loop-column l =
    Adds (AmongBefore l.outline.group.headings (λ _ heading f. OneOf (Notes l.row.line Rule11c heading (IsBrokenLink l.index.entries l.index.contents (headed_row l.outline.group l.row) heading) ∷ []) f) l.column-index)
    l.fn.findings l.findings
