use Rattle.std.proofs.Common.{inl, refl}
use Rattle.reg_app.proofs.ServingLemmas.{look_on}
use Rattle.reg_app.proofs.server.serve_connection.Goals as goal

pub returns : goal.returns
returns g c =
    let served = c.serve_next-served.ensures in
    look_on g.K.Keep g.R.Reload.looks _ _ _ _ _ _ _ _ c.renewed-running.ensures served.asked served.callers

pub returns-then-is_err : goal.returns-then-is_err
returns-then-is_err g c = look_on g.K.Keep g.R.Reload.looks _ _ _ _ _ _ _ _ c.renewed-running.ensures (inl refl) refl
