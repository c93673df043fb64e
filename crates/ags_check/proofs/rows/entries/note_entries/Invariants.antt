use Rattle.ags_rows.specs.Collecting.{Adds, AmongBefore, OneOf}
use Rattle.ags_rows.specs.Contents.{group_contents, fields_of}
use Rattle.ags_check.proofs.EntryNotes.{entry_rules_in}
use Rattle.ags_check.proofs.rows.entries.note_entries.Given as goal

abbrev pub invariant-loop-column : goal.invariant-loop-column
invariant-loop-column l =
    Adds (AmongBefore l.outline.group.headings (λ _ heading f. OneOf (entry_rules_in l.listed l.row.line (group_contents l.outline.group) (fields_of l.row) heading) f) l.column-index)
    l.fn.findings l.findings
