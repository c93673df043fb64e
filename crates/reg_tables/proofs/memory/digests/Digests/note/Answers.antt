use Rattle.reg_tables.proofs.RepeatsLemmas.{noted}
use Rattle.reg_tables.proofs.memory.digests.Digests.note.Goals as goal

pub returns : goal.returns
returns c other = noted c.args.self.now.held c.insert.new.self c.args.digest c.args.numbers c.in-Ok.ensures.updates other
