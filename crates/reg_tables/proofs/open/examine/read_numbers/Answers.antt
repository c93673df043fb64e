use Rattle.std.proofs.lemmas.Result.{IfOk-weaker}
use Rattle.sqlite.specs.Held.{state}
use Rattle.reg_tables.proofs.QuietLaws.{tables_before}
use Rattle.reg_tables.proofs.MeaningLaws.{all_numbers_read}
use Rattle.reg_tables.proofs.AdoptsLaws.{shows_numbers}
use Rattle.reg_tables.proofs.OrderedLaws.{shows_all_numbers}
use Rattle.reg_tables.proofs.open.examine.read_numbers.Goals as goal

pub query-requires-clause-plain : goal.query-requires-clause-plain
query-requires-clause-plain g c clean = (all_numbers_read _ (c.requires.idle.schema clean)).plain

pub returns-clause-all : goal.returns-clause-all
returns-clause-all g c clean =
    let has = tables_before c.requires.idle c.query.ensures.quiet clean in
    IfOk-weaker c.query.result _ _ (λ rows. shows_numbers (state g.S.Store c.args.conn.now) (state g.S.Store c.query.new.conn) rows.items has) (c.query.ensures.shown clean)

pub returns-clause-found : goal.returns-clause-found
returns-clause-found g c clean =
    let has = tables_before c.requires.idle c.query.ensures.quiet clean in
    IfOk-weaker c.query.result _ _ (λ rows shown list are. shows_all_numbers (state g.S.Store c.args.conn.now) (state g.S.Store c.query.new.conn) list rows.items has are shown) (c.query.ensures.shown clean)
