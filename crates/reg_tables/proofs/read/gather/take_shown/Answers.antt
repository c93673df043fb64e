use Rattle.sqlite.specs.Held.{state}
use Rattle.reg_tables.proofs.QuietLaws.{quiet_read}
use Rattle.reg_tables.proofs.QueryLemmas.{ok_quiet, refused_quiet}
use Rattle.reg_tables.proofs.read.gather.take_shown.Goals as goal

pub returns-in-Ok-clause-quiet : goal.returns-in-Ok-clause-quiet
returns-in-Ok-clause-quiet g c =
    let old = state g.S.Store c.args.conn.now in
    let new = state g.S.Store c.take_each.new.conn in
    quiet_read old new _ (ok_quiet old new c.take_each.ensures.mode c.in-Ok.ensures.open c.take_each.ensures.same c.take_each.ensures.crash)

pub returns-in-Err-clause-quiet : goal.returns-in-Err-clause-quiet
returns-in-Err-clause-quiet g c =
    refused_quiet (state g.S.Store c.args.conn.now) (state g.S.Store c.take_each.new.conn) (state g.S.Store c.refusal.new.conn) _ c.requires.idle.idle c.take_each.ensures.mode (c.refusal.ensures.mode c.take_each.ensures.mode) c.requires.idle.settled c.take_each.ensures.same c.take_each.ensures.crash c.refusal.ensures.known c.refusal.ensures.still c.refusal.ensures.crash
