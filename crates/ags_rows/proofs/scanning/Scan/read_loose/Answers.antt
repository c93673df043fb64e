use Rattle.std.proofs.lemmas.Result.{IfOk-weaker}
use Rattle.ags_rows.specs.declared.TheConstants.{READABLE}
use Rattle.ags_rows.specs.Stands.{StandsInLinesLoosely}
use Rattle.ags_rows.proofs.FirstPhase.{few_rows, found_later, groups_later}
use Rattle.ags_rows.proofs.scanning.Scan.read_loose.Goals as goal

pub read_groups-requires : goal.read_groups-requires
read_groups-requires c = few_rows StandsInLinesLoosely c.args.bytes.now c.in_ok-rows.rows.items _ READABLE c.in_ok-rows.ensures.rows c.requires

pub returns-clause-groups : goal.returns-clause-groups
returns-clause-groups c =
    IfOk-weaker c.read_groups.result _ _ (λ groups h. groups_later StandsInLinesLoosely c.args.bytes.now c.in_ok-rows.rows.items groups c.in_ok-rows.ensures.rows h) c.read_groups.ensures.groups

pub returns-clause-findings : goal.returns-clause-findings
returns-clause-findings c = λ found is.
    let h = c.read_groups.ensures.findings found is in
    (found_later StandsInLinesLoosely c.args.bytes.now c.in_ok-rows.rows.items found c.in_ok-rows.ensures.rows h.1, h.0)
