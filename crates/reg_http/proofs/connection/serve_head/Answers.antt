use Rattle.reg_http.proofs.ServeLemmas.{asked_at, refused_at}
use Rattle.reg_http.proofs.connection.serve_head.Goals as goal

pub returns-in-Ok-clause-served : goal.returns-in-Ok-clause-served
returns-in-Ok-clause-served g c = asked_at _ _ _ _ _ _ _ _ _ _ _ _ c.in-Ok.ensures.agrees c.serve_asked.ensures.served

pub returns-in-Err-clause-served : goal.returns-in-Err-clause-served
returns-in-Err-clause-served g c = refused_at _ _ _ _ _ _ _ _ _ c.in-Err.refusal _ c.in-Err.ensures.agrees c.refuse.ensures.written
