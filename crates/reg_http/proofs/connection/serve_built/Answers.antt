use Rattle.std.proofs.Common.{inr}
use Rattle.reg_http.proofs.ServeLemmas.{serve_reply}
use Rattle.reg_http.proofs.connection.serve_built.Goals as goal

pub returns-in-Ok-clause-served : goal.returns-in-Ok-clause-served
returns-in-Ok-clause-served g c = serve_reply _ _ _ _ _ _ _ c.in-Ok.ensures c.deref.ensures.value c.answer_status.ensures c.finish.ensures.written

pub returns-in-Ok-clause-write_fault : goal.returns-in-Ok-clause-write_fault
returns-in-Ok-clause-write_fault g c = c.finish.ensures.write_fault

pub returns-in-Ok-clause-no_read : goal.returns-in-Ok-clause-no_read
returns-in-Ok-clause-no_read g c = c.finish.ensures.no_read

pub returns-in-Err-clause-served : goal.returns-in-Err-clause-served
returns-in-Err-clause-served g c = inr (c.requires.built, c.refuse.ensures.written)

pub returns-in-Err-clause-write_fault : goal.returns-in-Err-clause-write_fault
returns-in-Err-clause-write_fault g c = c.refuse.ensures.write_fault

pub returns-in-Err-clause-no_read : goal.returns-in-Err-clause-no_read
returns-in-Err-clause-no_read g c = c.refuse.ensures.no_read
