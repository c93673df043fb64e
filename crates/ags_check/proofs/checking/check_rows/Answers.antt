use Rattle.ags_check.specs.RowRules.{StandsInEntries}
use Rattle.ags_check.proofs.Whole.{clear_phase, found_phase}
use Rattle.ags_check.proofs.checking.check_rows.Goals as goal

pub returns : goal.returns
returns c =
    let Stands = StandsInEntries c.args.dictionary.now c.args.scan.now in
    let lists = rw c.groups.ensures at c.entry_findings.ensures in
    record {
      clear = clear_phase Stands c.entry_findings.result c.phase.result lists c.phase.ensures.clear;
      findings = found_phase Stands c.entry_findings.result c.phase.result lists c.phase.ensures.findings;
    }
