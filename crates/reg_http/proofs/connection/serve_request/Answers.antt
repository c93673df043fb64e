use Rattle.reg_http.proofs.connection.serve_request.Goals as goal

pub returns-clause-served : goal.returns-clause-served
returns-clause-served g c = (c.answer-answer.result, c.answer-answer.ensures.answered, c.serve_answer.ensures.served)

pub returns-clause-write_fault : goal.returns-clause-write_fault
returns-clause-write_fault g c = c.serve_answer.ensures.write_fault

pub returns-clause-no_read : goal.returns-clause-no_read
returns-clause-no_read g c = c.serve_answer.ensures.no_read

pub serve_answer-requires : goal.serve_answer-requires
serve_answer-requires g c = c.requires
