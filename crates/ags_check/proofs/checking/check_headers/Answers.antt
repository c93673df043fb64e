use Rattle.ags_check.specs.Header.{StandsInDictionary}
use Rattle.ags_check.proofs.Whole.{clear_phase, found_phase}
use Rattle.ags_check.proofs.checking.check_headers.Goals as goal

pub returns : goal.returns
returns c =
    let Stands = StandsInDictionary c.args.given.now c.args.extended.now c.args.scan.now in
    let lists = rw c.groups.ensures at c.header_findings.ensures in
    record {
      clear = clear_phase Stands c.header_findings.result c.phase.result lists c.phase.ensures.clear;
      findings = found_phase Stands c.header_findings.result c.phase.result lists c.phase.ensures.findings;
    }
