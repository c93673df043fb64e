use Rattle.std.proofs.Common.{◌||◌, false, ap, ◌∙◌}
use Rattle.ags_cli.specs.Faults.{is_stream}
use Rattle.ags_cli.proofs.Answering.{report_answers, fault_answers, report_fails, fault_fails}
use Rattle.ags_cli.proofs.check.check_stream.Goals as goal

pub returns-in-Ok : goal.returns-in-Ok
returns-in-Ok g c =
    let read = c.in-Ok.ensures.noted ∙ ap (λ b. b || false) c.requires.0 in
    record {
      failed = report_fails _ _ _ _ _ _ _ c.in-Ok.report.status _ read c.requires.1 c.requires.2 c.in-Ok.ensures.status c.print.ensures;
      taken = c.in-Ok.ensures.taken;
      answers = report_answers c.args.dictionary.now _ _ _ _ c.in-Ok.report _ _ _ _ _ read c.requires.1 c.requires.2
          c.in-Ok.ensures.answers c.print.ensures;
    }

pub returns-in-Err : goal.returns-in-Err
returns-in-Err g c =
    let read = c.in-Err.ensures.noted ∙ ap (λ b. b || is_stream c.in-Err.fault) c.requires.0 in
    record {
      failed = fault_fails _ _ _ _ _ _ c.in-Err.fault _ read c.requires.1 c.requires.2 c.tell.ensures;
      taken = c.in-Err.ensures.taken;
      answers = fault_answers c.args.dictionary.now _ _ _ _ c.in-Err.fault _ _ _ _ _ read c.requires.1 c.requires.2
          c.in-Err.ensures.answers c.tell.ensures;
    }
