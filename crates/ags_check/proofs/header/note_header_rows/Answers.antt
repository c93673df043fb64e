use Rattle.std.proofs.lemmas.Result.{on_ok_weaker}
use Rattle.ags_check.proofs.Rules.{four_rules}
use Rattle.ags_check.proofs.header.note_header_rows.Goals as goal

pub returns : goal.returns
returns c =
    on_ok_weaker c.note_only_rows.result (λ only.
    four_rules _ _ _ _ _ c.in_ok-note_unknown_group.ensures c.in_ok-note_lacking_parent.ensures c.in_ok-note_known_heading_row.ensures only) c.note_only_rows.ensures
