use Rattle.std.proofs.Common.{◌≡◌}
use Rattle.ags_rows.specs.Collecting.{Adds, AmongBefore, OneOf}
use Rattle.ags_rows.specs.Contents.{contents_of}
use Rattle.ags_links.specs.DataRows.{rows_before}
use Rattle.ags_check.specs.RowRules.{entry_rules_of}
use Rattle.ags_check.proofs.rows.note_row_groups.Given as goal

abbrev pub invariant-loop-group : goal.invariant-loop-group
invariant-loop-group l = record {
  first : l.first ≡ rows_before (contents_of l.groups) l.group-index;
  noted :
      Adds (AmongBefore l.groups (λ place group f. OneOf (entry_rules_of l.dictionary (contents_of l.groups) (rows_before (contents_of l.groups) place) group) f) l.group-index) l.fn.findings l.findings;
}
