use Rattle.std.proofs.lemmas.Result.{on_ok_weaker}
use Rattle.ags_check.proofs.Rules.{four_rules}
use Rattle.ags_check.proofs.header.note_absent_groups.Goals as goal

pub returns : goal.returns
returns c =
    on_ok_weaker c.note_absent_group-4.result (λ last.
    four_rules _ _ _ _ _ c.in_ok-note_absent_group.ensures c.in_ok-note_absent_group-2.ensures c.in_ok-note_absent_group-3.ensures last) c.note_absent_group-4.ensures
