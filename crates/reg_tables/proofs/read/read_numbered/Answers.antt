use Rattle.std.proofs.lemmas.Result.{IfOk-weaker}
use Rattle.sqlite.specs.Held.{state}
use Rattle.reg_tables.proofs.QuietLaws.{tables_before}
use Rattle.reg_tables.proofs.MeaningLaws.{deposit_read}
use Rattle.reg_tables.proofs.AdoptsLaws.{shows_deposit}
use Rattle.reg_tables.proofs.read.read_numbered.Goals as goal

pub query-requires-clause-plain : goal.query-requires-clause-plain
query-requires-clause-plain g c clean = (deposit_read _ (c.requires.idle.schema clean)).plain

pub returns-clause-found : goal.returns-clause-found
returns-clause-found g c clean =
    let has = tables_before c.requires.idle c.query.ensures.quiet clean in
    IfOk-weaker c.query.result _ _ (λ rows. shows_deposit (state g.S.Store c.args.conn.now) (state g.S.Store c.query.new.conn) c.args.number rows.items has)
    (rw (c.params-to_sql.ensures) at (c.query.ensures.shown clean))
