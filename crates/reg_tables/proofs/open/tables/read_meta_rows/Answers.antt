use Rattle.std.proofs.Common.{arith, []}
use Rattle.std.proofs.lemmas.Result.{IfOk-weaker}
use Rattle.sqlite.specs.State.{HasCleanDisk}
use Rattle.sqlite.specs.Held.{state}
use Rattle.reg_tables.proofs.Texts.{select_meta}
use Rattle.reg_tables.proofs.MeaningLaws.{all_meta_read}
use Rattle.reg_tables.proofs.AdoptsLaws.{shows_meta}
use Rattle.reg_tables.proofs.QueryLemmas.{asks_quietly, opened_by, same_by}
use Rattle.reg_tables.proofs.open.tables.read_meta_rows.Goals as goal

pub returns-clause-shown : goal.returns-clause-shown
returns-clause-shown g c clean =
    IfOk-weaker c.query_all.result _ _ (λ rows. shows_meta (state g.S.Store c.args.conn.now) (state g.S.Store c.query_all.new.self) rows.items c.requires.meta) (c.query_all.ensures.ok clean)

pub returns-clause-open : goal.returns-clause-open
returns-clause-open g c clean =
    opened_by select_meta (λ rows. rows.items) (state g.S.Store c.args.conn.now) (state g.S.Store c.query_all.new.self) (all_meta_read _ c.requires.meta).plain []
    c.query_all.result (c.query_all.ensures.ok clean)

pub returns-clause-same : goal.returns-clause-same
returns-clause-same g c clean is_open =
    let old = state g.S.Store c.args.conn.now in
    let first : HasCleanDisk old = omega (arith, c.query_all.ensures.survives.clean) in
    same_by select_meta (λ rows. rows.items) old (state g.S.Store c.query_all.new.self) (all_meta_read _ c.requires.meta).plain []
    c.query_all.result c.requires.mode (c.requires.settled first) is_open (c.query_all.ensures.ok clean) (c.query_all.ensures.err clean)

pub returns-clause-crash : goal.returns-clause-crash
returns-clause-crash g c =
    asks_quietly select_meta (state g.S.Store c.args.conn.now) (state g.S.Store c.query_all.new.self) [] (λ _. (all_meta_read _ c.requires.meta).plain) c.query_all.ensures.survives
