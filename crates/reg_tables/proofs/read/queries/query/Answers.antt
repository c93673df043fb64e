use Rattle.sqlite.specs.Held.{state}
use Rattle.reg_tables.proofs.QueryLemmas.{ok_quiet, refused_quiet}
use Rattle.reg_tables.proofs.read.queries.query.Goals as goal

pub returns-in-Ok-clause-open : goal.returns-in-Ok-clause-open
returns-in-Ok-clause-open g c clean well = c.in-Ok.ensures.open clean

pub returns-in-Ok-clause-quiet : goal.returns-in-Ok-clause-quiet
returns-in-Ok-clause-quiet g c = ok_quiet (state g.S.Store c.args.conn.now) (state g.S.Store c.ask.new.conn) c.ask.ensures.mode c.in-Ok.ensures.open c.ask.ensures.same c.ask.ensures.crash

pub returns-in-Err-clause-open : goal.returns-in-Err-clause-open
returns-in-Err-clause-open g c clean well = (c.refusal.ensures.known clean well).0.is_open

pub returns-in-Err-clause-quiet : goal.returns-in-Err-clause-quiet
returns-in-Err-clause-quiet g c =
    refused_quiet (state g.S.Store c.args.conn.now) (state g.S.Store c.ask.new.conn) (state g.S.Store c.refusal.new.conn) _ c.requires.idle.idle c.ask.ensures.mode (c.refusal.ensures.mode c.ask.ensures.mode) c.requires.idle.settled c.ask.ensures.same c.ask.ensures.crash c.refusal.ensures.known c.refusal.ensures.still c.refusal.ensures.crash
