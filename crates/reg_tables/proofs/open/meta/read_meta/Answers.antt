use Rattle.std.proofs.lemmas.Result.{IfOk-weaker}
use Rattle.sqlite.specs.Held.{state}
use Rattle.reg_tables.proofs.QuietLaws.{tables_before}
use Rattle.reg_tables.proofs.TablesLemmas.{tables_first}
use Rattle.reg_tables.proofs.MeaningLaws.{all_meta_read}
use Rattle.reg_tables.proofs.AdoptsLaws.{shows_meta}
use Rattle.reg_tables.proofs.OrderedLaws.{shows_meta_rows}
use Rattle.reg_tables.proofs.open.meta.read_meta.Goals as goal

pub query-requires-clause-plain : goal.query-requires-clause-plain
query-requires-clause-plain g c clean =
    let schema = (state g.S.Store c.args.conn.now).now.schema in
    (all_meta_read schema (tables_first schema (c.requires.idle.schema clean))).plain

pub returns-clause-all : goal.returns-clause-all
returns-clause-all g c clean =
    let old = state g.S.Store c.args.conn.now in
    let first = tables_first old.now.schema (tables_before c.requires.idle c.query.ensures.quiet clean) in
    IfOk-weaker c.query.result _ _ (λ rows. shows_meta old (state g.S.Store c.query.new.conn) rows.items first) (c.query.ensures.shown clean)

pub returns-clause-found : goal.returns-clause-found
returns-clause-found g c clean =
    let old = state g.S.Store c.args.conn.now in
    let first = tables_first old.now.schema (tables_before c.requires.idle c.query.ensures.quiet clean) in
    IfOk-weaker c.query.result _ _ (λ rows shown number text are. shows_meta_rows old (state g.S.Store c.query.new.conn) number text rows.items first are shown) (c.query.ensures.shown clean)
