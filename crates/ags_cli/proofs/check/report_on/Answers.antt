use Rattle.ags_cli.proofs.Answering.{reports}
use Rattle.ags_cli.proofs.check.report_on.Goals as goal

pub returns-clause-answers : goal.returns-clause-answers
returns-clause-answers g c =
    reports c.args.dictionary.now _ c.in_ok-bytes.bytes _ _ _ c.in_ok-bytes.ensures.file c.in_ok-bytes.ensures.short c.as_slice.ensures.value c.in_ok-found.ensures c.in_ok-findings_report.ensures
