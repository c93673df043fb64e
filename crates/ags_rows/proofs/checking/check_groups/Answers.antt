use Rattle.ags_rows.proofs.FirstPhase.{listed_none, listed_some}
use Rattle.ags_rows.proofs.checking.check_groups.Goals as goal

pub returns-clause-none : goal.returns-clause-none
returns-clause-none c = listed_none c.none_noted.result c.new-findings.ensures c.in_ok-note_groups.ensures c.none_noted.ensures.none

pub returns-clause-findings : goal.returns-clause-findings
returns-clause-findings c = λ found is. listed_some found c.new-findings.ensures c.in_ok-note_groups.ensures (c.none_noted.ensures.findings found is)
