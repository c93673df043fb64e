use Rattle.std.proofs.Common.{refl}
use Rattle.reg_tables.proofs.MemoryLemmas.{agrees_same}
use Rattle.reg_tables.proofs.memory.Memory.make_room.Goals as goal

pub returns-in_err-numbers-clause-agrees : goal.returns-in_err-numbers-clause-agrees
returns-in_err-numbers-clause-agrees c = λ dictionary list agrees.
    let it = agrees_same c.args.self.now c.make_room.new.self c.args.self.now.known.items dictionary list refl c.make_room.ensures.same agrees in
    record { known = it.0; digests = it.1; below = it.2 }

pub returns-in_err-reserve-clause-agrees : goal.returns-in_err-reserve-clause-agrees
returns-in_err-reserve-clause-agrees c = λ dictionary list agrees.
    let it = agrees_same c.args.self.now c.make_room.new.self c.reserve.new.self.items dictionary list c.reserve.ensures.items c.make_room.ensures.same agrees in
    record { known = it.0; digests = it.1; below = it.2 }

pub returns-clause-agrees : goal.returns-clause-agrees
returns-clause-agrees c = λ dictionary list agrees.
    let it = agrees_same c.args.self.now c.make_room.new.self c.reserve.new.self.items dictionary list c.reserve.ensures.items c.make_room.ensures.same agrees in
    record { known = it.0; digests = it.1; below = it.2 }
