use Rattle.ags_rows.specs.declared.TheConstants.{READABLE}
use Rattle.ags_rows.specs.Groups.{Groups}
use Rattle.ags_rows.proofs.FewRows.{counted_within}
use Rattle.ags_rows.proofs.scanning.clean_groups.Goals as goal

pub invariant_of-result : goal.invariant_of-result
invariant_of-result c =
    let cut : Groups c.args.rows.items c.from_vec-held.result = rw c.from_vec-held.ensures c.in_ok-groups.ensures in
    counted_within c.args.rows.items c.from_vec-held.result READABLE cut c.requires.few
