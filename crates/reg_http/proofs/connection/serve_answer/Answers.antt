use Rattle.reg_http.proofs.ServeLemmas.{serve_reply}
use Rattle.reg_http.proofs.connection.serve_answer.Goals as goal

pub returns-in-Some-clause-served : goal.returns-in-Some-clause-served
returns-in-Some-clause-served g c = serve_reply _ _ _ _ _ _ _ c.in-Some.ensures.reply c.as_bytes.ensures.value c.answer_status.ensures c.finish.ensures.written
