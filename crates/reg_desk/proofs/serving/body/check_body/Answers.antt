use Rattle.std.proofs.Common.{arith, inl}
use Rattle.reg_desk.proofs.Bodies.{report_is}
use Rattle.reg_desk.proofs.serving.body.check_body.Goals as goal

pub returns-then-bytes-gt-LIMIT : goal.returns-then-bytes-gt-LIMIT
returns-then-bytes-gt-LIMIT c = inl (omega arith)

pub returns-in-Err : goal.returns-in-Err
returns-in-Err c = inl (omega arith)

pub returns-in-Ok : goal.returns-in-Ok
returns-in-Ok c =
    report_is c.args.dictionary.now c.args.bytes.now c.in-Ok.found c.report.result (omega arith) c.in-Ok.ensures c.report.ensures.none c.report.ensures.some
