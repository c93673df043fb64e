use Rattle.std.proofs.Common.{rules, arith}
use Rattle.sqlite.specs.Values.{bound}
use Rattle.sqlite.specs.State.{HasCleanDisk, Survives, CommitsShowing}
use Rattle.sqlite.specs.Held.{state}
use Rattle.reg_tables.proofs.QueryLemmas.{asks_quietly, fails_keeps, plain_at, shown_from}
use Rattle.reg_tables.proofs.read.gather.take_each.Goals as goal

pub returns-in_err-rows-clause-crash : goal.returns-in_err-rows-clause-crash
returns-in_err-rows-clause-crash g c =
    let old = state g.S.Store c.args.conn.now in
    let new = state g.S.Store c.query.follows.lender-at-none in
    let kept : Survives old new (CommitsShowing c.args.sql.now (bound c.args.params.now) old) = search rules in
    asks_quietly c.args.sql.now old new _ (λ clean. plain_at c.args.sql.now old c.requires.plain (c.requires.idle.schema clean)) kept

pub returns-in_err-rows-clause-same : goal.returns-in_err-rows-clause-same
returns-in_err-rows-clause-same g c clean is_open =
    let old = state g.S.Store c.args.conn.now in
    let new = state g.S.Store c.query.follows.lender-at-none in
    let kept : Survives old new (CommitsShowing c.args.sql.now (bound c.args.params.now) old) = search rules in
    let first : HasCleanDisk old = omega (arith, kept.clean) in
    let held = rw c.in_err-rows.was at c.query.follows.holds-at-none in
    fails_keeps c.args.sql.now (bound c.args.params.now) old new _ c.requires.idle.idle (c.requires.idle.settled first) is_open (held.err clean)

pub returns-in_default-clause-shown : goal.returns-in_default-clause-shown
returns-in_default-clause-shown g c clean =
    let moved = c.next.follows.holds-at-none in
    let now = c.next.follows.lender-at-none.conn.now in
    let old = state g.S.Store c.args.conn.now in
    let late : HasCleanDisk (state g.S.Store now) = search rules in
    let mid : HasCleanDisk (state g.S.Store c.rows.rows.conn.now) = omega (arith, moved.survives.clean) in
    let was = c.rows.invariant.3 mid in
    let first : HasCleanDisk old = omega (arith, c.rows.invariant.1.clean, mid) in
    let shown = (rw (c.in_ok-row.was, c.in_default.is) at (moved.ok late)) c.args.sql.now (bound c.args.params.now) was.0 was.1 in
    let from = shown_from c.args.sql.now (bound c.args.params.now) old (state g.S.Store c.rows.rows.conn.now) (state g.S.Store now) was.0 (plain_at c.args.sql.now old c.requires.plain (c.requires.idle.schema first)) was.2 shown in
    (was.0, search (rules, from), was.3)
