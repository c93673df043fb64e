use Rattle.reg_tables.proofs.MemoryLemmas.{agrees_push}
use Rattle.reg_tables.proofs.memory.Memory.push.Goals as goal

pub returns-clause-agrees : goal.returns-clause-agrees
returns-clause-agrees c = λ dictionary list d its sized agrees. agrees_push c.args.self.now _ c.args.coming dictionary list d c.push_reserved.ensures.items c.note.ensures its sized agrees
