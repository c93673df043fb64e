use Rattle.ags_rows.proofs.Lemmas.{listed}
use Rattle.ags_check.proofs.rows.entry_findings.Goals as goal

pub returns : goal.returns
returns c =
    let noted = rw c.new-findings.ensures at c.in_ok-note_all_entries.ensures in
    listed _ c.in_order.result noted c.in_order.ensures.order c.in_order.ensures.only c.in_order.ensures.all
