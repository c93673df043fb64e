use Rattle.std.proofs.Common.{arith}
use Rattle.std.proofs.lemmas.Result.{IfOk-weaker}
use Rattle.sqlite.specs.State.{HasCleanDisk}
use Rattle.sqlite.specs.Held.{state}
use Rattle.reg_tables.proofs.MeaningLaws.{all_marks_read}
use Rattle.reg_tables.proofs.OrderedLaws.{shows_marks}
use Rattle.reg_tables.proofs.open.marks.read_mark_rows.Goals as goal

pub query-requires-clause-plain : goal.query-requires-clause-plain
query-requires-clause-plain g c clean = (all_marks_read _ (c.requires.schema clean)).plain

pub returns-clause-found : goal.returns-clause-found
returns-clause-found g c clean =
    let old = state g.S.Store c.args.conn.now in
    let new = state g.S.Store c.query.new.conn in
    let first : HasCleanDisk old = omega (arith, c.query.ensures.quiet.survives.clean) in
    IfOk-weaker c.query.result _ _ (λ rows. shows_marks old new rows.items (c.requires.schema first)) (c.query.ensures.shown clean)
