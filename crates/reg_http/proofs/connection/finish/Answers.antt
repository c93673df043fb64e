use Rattle.std.proofs.Common.{ap, ◌∙◌, not}
use Rattle.reg_http.proofs.connection.finish.Goals as goal

pub returns-then-write_text-clause-write_fault : goal.returns-then-write_text-clause-write_fault
returns-then-write_text-clause-write_fault g c = c.write_text.ensures.failed ∙ ap not c.if-write_text.true

pub returns-else-write_text-clause-write_fault : goal.returns-else-write_text-clause-write_fault
returns-else-write_text-clause-write_fault g c = c.write_text.ensures.failed ∙ ap not c.if-write_text.false
