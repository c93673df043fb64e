use Rattle.std.proofs.Common.{arith}
use Rattle.std.proofs.lemmas.Result.{IfOk-weaker}
use Rattle.sqlite.specs.State.{HasCleanDisk}
use Rattle.sqlite.specs.Held.{state}
use Rattle.reg_tables.proofs.AdoptsLaws.{shows_meta}
use Rattle.reg_tables.proofs.MigrateLemmas.{read_inside, read_keeps}
use Rattle.reg_tables.proofs.open.second_format.read_meta_inside.Goals as goal

pub returns-clause-shown : goal.returns-clause-shown
returns-clause-shown g c clean =
    let old = state g.S.Store c.args.tx.now.conn.now in
    let early : HasCleanDisk old = omega (arith, c.query_all.ensures.survives.clean) in
    IfOk-weaker c.query_all.result _ _ (λ rows. shows_meta old (state g.S.Store c.query_all.new.self.conn.now) rows.items (c.requires.meta early)) (c.query_all.ensures.ok clean)

pub returns-clause-same : goal.returns-clause-same
returns-clause-same g c clean =
    let old = state g.S.Store c.args.tx.now.conn.now in
    let early : HasCleanDisk old = omega (arith, c.query_all.ensures.survives.clean) in
    read_inside (λ rows. rows.items) old (state g.S.Store c.query_all.new.self.conn.now) c.query_all.result (c.requires.meta early) (c.requires.inside early) (c.query_all.ensures.ok clean)

pub returns-clause-kept : goal.returns-clause-kept
returns-clause-kept g c clean =
    let old = state g.S.Store c.args.tx.now.conn.now in
    let early : HasCleanDisk old = omega (arith, c.query_all.ensures.survives.clean) in
    read_keeps (λ rows. rows.items) old (state g.S.Store c.query_all.new.self.conn.now) c.query_all.result (c.requires.meta early) (c.query_all.ensures.ok clean) (c.query_all.ensures.err clean)
