use Rattle.std.proofs.Common.{arith}
use Rattle.sqlite.specs.State.{HasCleanDisk}
use Rattle.sqlite.specs.Held.{state}
use Rattle.reg_tables.proofs.QueryLemmas.{opened_by, same_by, asks_quietly}
use Rattle.reg_tables.proofs.read.queries.ask.Goals as goal

pub returns-clause-open : goal.returns-clause-open
returns-clause-open g c clean =
    let old = state g.S.Store c.args.conn.now in
    let new = state g.S.Store c.query_all.new.self in
    let first : HasCleanDisk old = omega (arith, c.query_all.ensures.survives.clean) in
    opened_by c.args.sql.now (λ rows. rows.items) old new (c.requires.plain first) _ c.query_all.result (c.query_all.ensures.ok clean)

pub returns-clause-same : goal.returns-clause-same
returns-clause-same g c clean is_open =
    let old = state g.S.Store c.args.conn.now in
    let new = state g.S.Store c.query_all.new.self in
    let first : HasCleanDisk old = omega (arith, c.query_all.ensures.survives.clean) in
    same_by c.args.sql.now (λ rows. rows.items) old new (c.requires.plain first) _ c.query_all.result c.requires.idle.idle (c.requires.idle.settled first) is_open (c.query_all.ensures.ok clean) (c.query_all.ensures.err clean)

pub returns-clause-crash : goal.returns-clause-crash
returns-clause-crash g c =
    asks_quietly c.args.sql.now (state g.S.Store c.args.conn.now) (state g.S.Store c.query_all.new.self) _ c.requires.plain c.query_all.ensures.survives
