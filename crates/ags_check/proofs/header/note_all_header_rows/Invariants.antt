use Rattle.ags_rows.specs.Collecting.{Adds, AmongBefore, OneOf}
use Rattle.ags_rows.specs.Contents.{contents_of}
use Rattle.ags_check.specs.Header.{group_header_rules}
use Rattle.ags_check.proofs.header.note_all_header_rows.Given as goal

abbrev pub invariant-loop-group : goal.invariant-loop-group
invariant-loop-group l =
    Adds (AmongBefore l.file (λ _ group f. OneOf (group_header_rules l.given l.extended (contents_of l.file) l.code group) f) l.group-index) l.fn.findings l.findings
