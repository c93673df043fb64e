use Rattle.std.proofs.Common.{◌≡◌, [], ◌∷◌}
use Rattle.ags_rows.specs.declared.code.Code.TheVariants.{Rule10b}
use Rattle.ags_rows.specs.Collecting.{Adds, AmongBefore, Notes, OneOf}
use Rattle.ags_dict.specs.Entries.{required_of}
use Rattle.ags_links.specs.DataRows.{entry_of}
use Rattle.ags_check.specs.RowRules.{headed_row}
use Rattle.ags_check.proofs.rows.entries.note_lacking.Given as goal

abbrev pub invariant-loop-column : goal.invariant-loop-column
invariant-loop-column l =
    Adds (AmongBefore (required_of l.outline.entries l.outline.group.name) (λ _ heading f. OneOf (Notes l.row.line Rule10b heading (entry_of (headed_row l.outline.group l.row) heading ≡ []) ∷ []) f) l.column-index)
    l.fn.findings l.findings
